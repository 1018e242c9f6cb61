-- After the first bad line nothing changes, whatever lines follow.
use mathlib.Core.Path.{◌≡◌, refl, ap, ◌∙◌}
use mathlib.Core.List.{List, [], ◌∷◌}
use Prim.Native.Nat.{ℕ, ◌<◌}
use lib.Dec.{leb}
use lib.ListN.{length, take}
use Rattle.hex_text.proofs.DigitLaws.{cond_both}
use Rattle.tally.specs.declared.Case.{Case}
use Rattle.tally.specs.Mirror.Reading.{Reading, only}
use Rattle.tally.specs.Mirror.Lines.{long_line}
use Rattle.frames.proofs.Stays.{line_stays, long-stays}
use Rattle.line_blocks.specs.Mirror.Rows.{is_begun}
use Rattle.feeding.specs.Mirror.Feeding.{Machine, ended, finished}
use Rattle.feeding.specs.Mirror.Text.{any_line_read, lines_read}

too-long-stays : (r : Reading) → 0 < r.case.bad → only (long_line r.case) r ≡ r
too-long-stays r h = ap (λ (c : Case). only c r) (long-stays r.case h)

any-stays : (limit : ℕ) (line : List ℕ) (r : Reading) → 0 < r.case.bad → any_line_read limit line r ≡ r
unfolding any_line_read
any-stays limit line r h = cond_both (λ (x : Reading). x ≡ r) (leb (length line) limit) (λ _. line_stays line r h) (λ _. too-long-stays r h)

pub all_stay : (limit : ℕ) (lines : List (List ℕ)) (r : Reading) → 0 < r.case.bad → lines_read limit lines r ≡ r
unfolding lines_read
all_stay limit [] r h = refl
all_stay limit (line ∷ lines) r h = ap (lines_read limit lines) (any-stays limit line r h) ∙ all_stay limit lines r h

ended-stays : (m : Machine) → 0 < m.reading.case.bad → (ended m).reading ≡ m.reading
unfolding ended
ended-stays m h =
    cond_both (λ (x : Reading). x ≡ m.reading) m.row.long (λ _. too-long-stays m.reading h) (λ _. line_stays (take m.row.used m.row.line) m.reading h)

pub finished-stays : (m : Machine) → 0 < m.reading.case.bad → (finished m).reading ≡ m.reading
unfolding finished
finished-stays m h = cond_both (λ (x : Machine). x.reading ≡ m.reading) (is_begun m.row.used m.row.long) (λ _. ended-stays m h) (λ _. refl)
