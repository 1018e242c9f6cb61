-- Feeding a text byte by byte, in whatever blocks, and finishing, is reading it line by line.
use mathlib.Core.Path.{◌≡◌, refl, sym, ap, ◌∙◌}
use mathlib.Core.Bool.{Bool, true, false, cond}
use mathlib.Core.Logic.{⊎_elim}
use mathlib.Core.List.{List, [], ◌∷◌, ◌++◌, flatten}
use Prim.Native.Nat.{ℕ, ◌≤◌, ◌<◌}
use native.Mathlib.Omega.{arith}
use lib.ListN.{length}
use lib.Dec.{eqb, ltb, eqb-suc-zero}
use borrow.Author.Tests.{lt-ltb, le-leb, lt-leb, ltb-true}
use Rattle.tally.specs.Mirror.Reading.{Contents, Tables, Reading, reading}
use Rattle.tally.specs.Mirror.Lines.{nothing}
use Rattle.line_blocks.specs.LinesOf.{lines_from, lines_of}
use Rattle.line_blocks.specs.Mirror.Rows.{is_begun, pushed}
use Rattle.line_blocks.proofs.RowLaws.{Begun, begun-none, begun_more}
use Rattle.feeding.specs.Mirror.Feeding.{Machine, machine, fresh, ended, byte_fed, fed, finished}
use Rattle.feeding.specs.Mirror.Text.{any_line_read, lines_read, text_read}
use Rattle.feeding.proofs.StayLaws.{all_stay, finished-stays}
use Rattle.feeding.proofs.FeedingLaws.{fed-stays, blocks_fed, blocks-fed}

-- a line that ends is read as the line that it is
ended-reads : (limit : ℕ) (m : Machine) (line : List ℕ) → Begun limit m.row line → (ended m).reading ≡ any_line_read limit line m.reading
unfolding ended any_line_read
ended-reads limit m line g =
    let room : length m.row.line ≡ limit = g.room in
    ⊎_elim
    (λ s. let h : length line ≤ length m.row.line = s.inside in rw (s.short, s.text, le-leb (length line) limit (omega arith)))
    (λ s. let h : length m.row.line < length line = s.over in rw (s.long, lt-leb (length line) limit (omega arith)))
    g.state

ended-begun : (limit : ℕ) (m : Machine) (line : List ℕ) → Begun limit m.row line → Begun limit (ended m).row []
unfolding ended
ended-begun limit m line g = rw (sym g.room) (begun-none m.row.line)

-- over plain variables: a flag of a machine that is rewritten is rewritten in the machine too
used-ends : (x y : Machine) (long : Bool) (used : ℕ) (r : Reading) → long ≡ false → 0 < used → x.reading ≡ r → (cond (is_begun used long) x y).reading ≡ r
unfolding is_begun
used-ends x y long used r e h k = rw (e, lt-ltb 0 used h) k

long-ends : (x y : Machine) (long : Bool) (used : ℕ) (r : Reading) → long ≡ true → x.reading ≡ r → (cond (is_begun used long) x y).reading ≡ r
unfolding is_begun
long-ends x y long used r e k = rw e k

none-begun : (x y : Machine) (long : Bool) (used : ℕ) → long ≡ false → used ≡ 0 → (cond (is_begun used long) x y).reading ≡ y.reading
unfolding is_begun
none-begun x y long used e h = rw (e, h)

finished-reads : (limit : ℕ) (m : Machine) (line : List ℕ) → Begun limit m.row line → (finished m).reading ≡ lines_read limit (lines_from line []) m.reading
unfolding finished lines_from lines_read
finished-reads limit m [] g =
    ⊎_elim
    (λ s. none-begun (ended m) m m.row.long m.row.used s.short s.count)
    (λ s. absurd (omega (arith, s.over)))
    g.state
finished-reads limit m (c ∷ line) g =
    let e = ended-reads limit m (c ∷ line) g in
    rw (eqb-suc-zero (length line))
    (⊎_elim
    (λ s. used-ends (ended m) m m.row.long m.row.used (any_line_read limit (c ∷ line) m.reading) s.short (rw s.count (omega arith)) e)
    (λ s. long-ends (ended m) m m.row.long m.row.used (any_line_read limit (c ∷ line) m.reading) s.long e)
    g.state)

-- what is to be shown of a text, whatever line was begun before it
abbrev pub Reads : ℕ → List ℕ → Type 0
Reads limit text =
    (line : List ℕ) (m : Machine) → Begun limit m.row line → (finished (fed text m)).reading ≡ lines_read limit (lines_from line text) m.reading

-- after a bad line nothing is read, whatever the text
nothing-more : (limit : ℕ) (text : List ℕ) (lines : List (List ℕ)) (m : Machine) → ltb 0 m.reading.case.bad ≡ true → (finished (fed text m)).reading ≡ lines_read limit lines m.reading
nothing-more limit text lines m b =
    let h = ltb-true 0 m.reading.case.bad b in
    ap (λ (x : Machine). (finished x).reading) (fed-stays text m b) ∙ (finished-stays m h ∙ sym (all_stay limit lines m.reading h))

reads_more : (limit b : ℕ) (text : List ℕ) → Reads limit text → (line : List ℕ) (m : Machine) → Begun limit m.row line → (bad ends : Bool) → ltb 0 m.reading.case.bad ≡ bad →
    (finished (fed text (cond bad m (cond ends (ended m) (record { row = pushed b m.row; reading = m.reading }))))).reading
    ≡ lines_read limit (cond ends (line ∷ lines_from [] text) (lines_from (line ++ (b ∷ [])) text)) m.reading
unfolding lines_read
reads_more limit b text k line m g true ends h = nothing-more limit text (cond ends (line ∷ lines_from [] text) (lines_from (line ++ (b ∷ [])) text)) m h
reads_more limit b text k line m g false true h =
    k [] (ended m) (ended-begun limit m line g) ∙ ap (lines_read limit (lines_from [] text)) (ended-reads limit m line g)
reads_more limit b text k line m g false false h =
    k (line ++ (b ∷ [])) (record { row = pushed b m.row; reading = m.reading }) (begun_more limit b m.row line g)

reads_all : (limit : ℕ) (text : List ℕ) → Reads limit text
unfolding fed lines_from byte_fed
reads_all limit [] line m g = finished-reads limit m line g
reads_all limit (b ∷ text) line m g = reads_more limit b text (reads_all limit text) line m g (ltb 0 m.reading.case.bad) (eqb b 10) refl

pub fed-text : (text buffer : List ℕ) (contents : Contents) (tables : Tables) →
    (finished (fed text (machine buffer fresh contents tables))).reading ≡ text_read (length buffer) text (reading nothing contents tables)
unfolding text_read lines_of fresh
fed-text text buffer contents tables = reads_all (length buffer) text [] (machine buffer fresh contents tables) (begun-none buffer)

-- whatever the cut, the end is the text read line by line
pub blocks-text : (blocks : List (List ℕ)) (buffer : List ℕ) (contents : Contents) (tables : Tables) →
    (finished (blocks_fed blocks (machine buffer fresh contents tables))).reading ≡ text_read (length buffer) (flatten blocks) (reading nothing contents tables)
blocks-text blocks buffer contents tables =
    ap (λ (m : Machine). (finished m).reading) (blocks-fed blocks (machine buffer fresh contents tables)) ∙ fed-text (flatten blocks) buffer contents tables
