-- What has been put out, with what is to come, stays the same from step to step; at the start it is the whole output.
use mathlib.Core.Path.{◌≡◌, refl, sym, ap, ap₂, ◌∙◌, subst}
use mathlib.Core.Bool.{Bool, true, false, true≢false, cond, not, ◌||◌}
use mathlib.Core.Logic.{⊎_elim}
use mathlib.Core.List.{List, [], ◌++◌, append_assoc, append-nil}
use Prim.Native.Nat.{ℕ, ◌+◌, ◌-◌, ◌≤◌, ◌<◌}
use native.Mathlib.Omega.{arith}
use lib.Dec.{ltb}
use lib.ListN.{length, take, drop}
use borrow.Author.Tests.{le-leb, lt-leb, ltb-false}
use Rattle.little_endian.specs.LittleEndian.{Bytes}
use Rattle.hex_text.specs.Bytes.{hex_bytes}
use Rattle.format_writers.specs.Writing.{wrote, written}
use Rattle.format_writers.proofs.WritingLaws.{room-takes}
use Rattle.line_blocks.specs.Mirror.Rows.{Row, row, all_pushed, line_length}
use Rattle.line_blocks.specs.Mirror.TextOut.{cleared, text_out}
use Rattle.line_blocks.proofs.RowLaws.{Begun}
use Rattle.line_blocks.proofs.TextOutLaws.{text-lines, part_out, line-out, over-out}
use Rattle.listing.specs.declared.State.{State}
use Rattle.listing.specs.Listing.{refusal_line, step_text, step_next, listed_from, is_kernel, listed, listing_output}
use Rattle.listing.specs.Mirror.Parts.{is_kernel_in, kernel_in, row_listed, whole, Goes, Passes}
use Rattle.listing.proofs.StepLaws.{StepPut, refusal-short, listed-step, listed-over}
use Rattle.listing.proofs.LoadLaws.{Loads, not_so, take-bytes}

abbrev pub state : ℕ → Bool → ℕ → ℕ → ℕ → ℕ → State
state used long size at out place = record { begun = record { used = used; long = long }; size = size; at = at; out = out; place = place }

-- ---- a line of the kernel at hand

pub step-goes : (block line kernel part out after : List ℕ) (s : State) (e next : ℕ) → Bytes kernel → part ≡ take s.size kernel → s.at < length (take s.size kernel) →
    s.out + 256 ≤ length out → StepPut part s.at out s.out e after next → Goes block line kernel out s line kernel after (state s.begun.used s.begun.long s.size next e s.place)
unfolding whole
step-goes block line kernel part out after s e next bytes is h r stepped =
    let k = take s.size kernel in
    let b = take-bytes s.size kernel bytes in
    let p = subst (λ (x : List ℕ). StepPut x s.at out s.out e after next) is stepped in
    let t = step_text k s.at in
    let w = room-takes out t s.out e after (omega (arith, r, p.1.1)) p.0 in
    record {
      same = λ later.
          let rest = text_out row_listed (row line s.begun.used s.begun.long) (drop s.place block ++ later) in
          ap₂ (λ (x : List ℕ) (n : ℕ). x ++ (listed_from k n ++ rest)) w.0 p.1.0
          ∙ (append_assoc (take s.out out) t (listed_from k (step_next k s.at) ++ rest)
          ∙ ap (λ (x : List ℕ). take s.out out ++ x) (sym (append_assoc t (listed_from k (step_next k s.at)) rest) ∙ ap (λ (x : List ℕ). x ++ rest) (sym (listed-step k b s.at h))));
      inside = w.1;
    }

-- ---- a line that is whole

abbrev pub Takes : List ℕ → ℕ → Bool → List ℕ → ℕ → List ℕ → ℕ → List ℕ → ℕ → Type 0
Takes line used long out at kernel size after e =
    (take e after ++ listed_from (take size kernel) 0 ≡ take at out ++ row_listed (row line used long)) × (e ≤ length after)

good-takes : (characters kernel : List ℕ) (size : ℕ) (long : Bool) → Loads long characters true size kernel →
    listed_from (take size kernel) 0 ≡ cond (is_kernel_in long characters) (listed_from (hex_bytes characters) 0) (refusal_line 14 0)
unfolding kernel_in
good-takes characters kernel size long p = rw (p.1, sym p.0)

bad-takes : (characters kernel : List ℕ) (size : ℕ) (long : Bool) → Loads long characters false size kernel →
    (listed_from (take size kernel) 0 ≡ []) × (refusal_line 14 0 ≡ cond (is_kernel_in long characters) (listed_from (hex_bytes characters) 0) (refusal_line 14 0))
unfolding kernel_in
bad-takes characters kernel size long p = rw (p.1, sym p.0) (listed-over [] 0 (omega arith), refl)

pub take-good : (line characters kernel out : List ℕ) (used size at : ℕ) (long : Bool) → characters ≡ take used line → Loads long characters true size kernel →
    at + 256 ≤ length out → Takes line used long out at kernel size out at
unfolding row_listed
take-good line characters kernel out used size at long c p r =
    (ap (λ (x : List ℕ). take at out ++ x) (good-takes (take used line) kernel size long (subst (λ (x : List ℕ). Loads long x true size kernel) c p)), omega (arith, r))

pub take-bad : (line characters kernel out after : List ℕ) (used size at e : ℕ) (long : Bool) → characters ≡ take used line → Loads long characters false size kernel →
    at + 256 ≤ length out → wrote e after ≡ written out at (refusal_line 14 0) → Takes line used long out at kernel size after e
unfolding row_listed
take-bad line characters kernel out after used size at e long c p r q =
    let w = room-takes out (refusal_line 14 0) at e after (omega (arith, r, refusal-short 14 0 (omega arith) (omega arith))) q in
    let b = bad-takes (take used line) kernel size long (subst (λ (x : List ℕ). Loads long x false size kernel) c p) in
    (ap₂ (λ (x y : List ℕ). x ++ y) w.0 b.0 ∙ (append-nil (take at out ++ refusal_line 14 0) ∙ ap (λ (x : List ℕ). take at out ++ x) b.1), w.1)

-- ---- more of the block

module _ (block line kernel out : List ℕ) (s : State) (end : ℕ) (line' : List ℕ) (used : ℕ) (long : Bool)
    (e : end ≡ s.place + line_length (drop s.place block)) (p : row line' used long ≡ all_pushed (take (end - s.place) (drop s.place block)) (row line s.begun.used s.begun.long))
    (r : s.out + 256 ≤ length out) where
  pub part-goes : Goes block line kernel out s line' kernel out (state used long s.size s.at s.out end)
  unfolding whole
  part-goes =
      record {
        same = λ later. ap (λ (x : List ℕ). take s.out out ++ (listed_from (take s.size kernel) s.at ++ x)) (part_out row_listed block later s.place end (row line s.begun.used s.begun.long) (row line' used long) e p);
        inside = omega (arith, r);
      }

  pub line-goes : (kernel' out' : List ℕ) (size o : ℕ) → s.place < length block → end < length block → length (take s.size kernel) ≤ s.at →
      Takes line' used long out s.out kernel' size out' o → Goes block line kernel out s line' kernel' out' (state 0 false size 0 o (end + 1))
  unfolding whole
  line-goes kernel' out' size o h l over t =
      record {
        same = λ later.
            let rest = text_out row_listed (cleared (row line' used long)) (drop (end + 1) block ++ later) in
            let w = row line' used long in
            sym (append_assoc (take o out') (listed_from (take size kernel') 0) rest)
            ∙ (ap (λ (x : List ℕ). x ++ rest) t.0
            ∙ (append_assoc (take s.out out) (row_listed w) rest
            ∙ ap (λ (x : List ℕ). take s.out out ++ x)
            (sym (line-out row_listed block later s.place end w h e l)
            ∙ (part_out row_listed block later s.place end (row line s.begun.used s.begun.long) w e p
            ∙ ap (λ (x : List ℕ). x ++ text_out row_listed (row line s.begun.used s.begun.long) (drop s.place block ++ later)) (sym (listed-over (take s.size kernel) s.at over))))));
        inside = t.1;
      }

-- ---- from step to step

pub goes_none : (block line kernel out : List ℕ) (s : State) → s.out ≤ length out → Goes block line kernel out s line kernel out s
goes_none block line kernel out s h = record { same = λ later. refl; inside = h }

pub goes_on : (block line kernel out line' kernel' out' line'' kernel'' out'' : List ℕ) (s r q : State) → Goes block line kernel out s line' kernel' out' r → Goes block line' kernel' out' r line'' kernel'' out'' q →
    Goes block line kernel out s line'' kernel'' out'' q
goes_on block line kernel out line' kernel' out' line'' kernel'' out'' s r q f g = record { same = λ later. g.same later ∙ f.same later; inside = g.inside }

-- ---- the whole

row-agrees : (long : Bool) (characters line : List ℕ) → long ≡ false → characters ≡ line → length line ≤ 131072 → cond (is_kernel_in long characters) (listed_from (hex_bytes characters) 0) (refusal_line 14 0) ≡ listed line
unfolding is_kernel_in listed is_kernel
row-agrees long characters line s t h = rw (s, t, le-leb (length line) 131072 h)

long-agrees : (long : Bool) (characters line : List ℕ) → long ≡ true → 131072 < length line → cond (is_kernel_in long characters) (listed_from (hex_bytes characters) 0) (refusal_line 14 0) ≡ listed line
unfolding is_kernel_in listed is_kernel
long-agrees long characters line s h = rw (s, lt-leb (length line) 131072 h)

pub listed-agree : (w : Row) (line : List ℕ) → Begun 131072 w line → row_listed w ≡ listed line
unfolding row_listed
listed-agree w line g =
    ⊎_elim
    (λ s. row-agrees w.long (take w.used w.line) line s.short s.text (omega (arith, s.inside, g.room)))
    (λ s. long-agrees w.long (take w.used w.line) line s.long (omega (arith, s.over, g.room)))
    g.state

-- a text in a line buffer of 131,072 characters, nothing put out before
pub whole-listed : (block line kernel out later : List ℕ) → length line ≡ 131072 → whole block line kernel out (state 0 false 0 0 0 0) later ≡ listing_output (block ++ later)
unfolding whole listing_output
whole-listed block line kernel out later h =
    ap (λ (x : List ℕ). x ++ text_out row_listed (row line 0 false) (block ++ later)) (listed-over [] 0 (omega arith))
    ∙ text-lines row_listed listed line (λ w l g. listed-agree w l (rw h at g)) (block ++ later)

-- where nothing of the block and of the kernel at hand is left, what is to come is what the next block is read from; at the text's end a 0x0a ends the line begun
pub done-listed : (block line kernel out later : List ℕ) (s : State) → length block ≤ s.place → length (take s.size kernel) ≤ s.at →
    whole block line kernel out s later ≡ take s.out out ++ text_out row_listed (row line s.begun.used s.begun.long) later
unfolding whole
done-listed block line kernel out later s h k =
    ap₂ (λ (x y : List ℕ). take s.out out ++ (x ++ y)) (listed-over (take s.size kernel) s.at k) (over-out row_listed block later s.place (row line s.begun.used s.begun.long) h)

-- ---- a block, its output written now and then

neither : (a b : Bool) → (a || b) ≡ false → (a ≡ false) × (b ≡ false)
neither true b e = absurd (true≢false e)
neither false b e = (refl, e)

pub record SoFar (block line₀ : List ℕ) (used₀ : ℕ) (long₀ : Bool) (line kernel out : List ℕ) (s : State) : Type 0 where
  pub written : List ℕ
  pub same : (later : List ℕ) → written ++ whole block line kernel out s later ≡ text_out row_listed (row line₀ used₀ long₀) (block ++ later)
  pub inside : s.out ≤ length out

pub far_none : (block line kernel out : List ℕ) (used : ℕ) (long : Bool) → SoFar block line used long line kernel out (state used long 0 0 0 0)
unfolding whole
far_none block line kernel out used long =
    record {
      written = [];
      same = λ later. ap (λ (x : List ℕ). x ++ text_out row_listed (row line used long) (block ++ later)) (listed-over [] 0 (omega arith));
      inside = omega arith;
    }

module _ (block line₀ : List ℕ) (used₀ : ℕ) (long₀ : Bool) (line kernel out : List ℕ) (s : State) (line' kernel' out' : List ℕ) (r : State)
    (f : SoFar block line₀ used₀ long₀ line kernel out s) (g : Goes block line kernel out s line' kernel' out' r) where
  went : (later : List ℕ) → f.written ++ whole block line' kernel' out' r later ≡ text_out row_listed (row line₀ used₀ long₀) (block ++ later)
  went later = ap (λ (x : List ℕ). f.written ++ x) (g.same later) ∙ f.same later

  -- what is written goes out of the buffer
  pub far-more : SoFar block line₀ used₀ long₀ line' kernel' out' (state r.begun.used r.begun.long r.size r.at 0 r.place)
  unfolding whole
  far-more =
      record {
        written = f.written ++ take r.out out';
        same = λ later.
            append_assoc f.written (take r.out out') (listed_from (take r.size kernel') r.at ++ text_out row_listed (row line' r.begun.used r.begun.long) (drop r.place block ++ later)) ∙ went later;
        inside = omega arith;
      }

  -- nothing is left
  pub far-done : (work : Bool) → work ≡ (ltb r.at (length (take r.size kernel')) || ltb r.place (length block)) → not work ≡ true → Passes block line₀ used₀ long₀ line' r.begun.used r.begun.long
  far-done work e n =
      let none : (ltb r.at (length (take r.size kernel')) || ltb r.place (length block)) ≡ false = not_so work (ltb r.at (length (take r.size kernel')) || ltb r.place (length block)) e n in
      let k = neither (ltb r.at (length (take r.size kernel'))) (ltb r.place (length block)) none in
      record {
        written = f.written ++ take r.out out';
        same = λ later.
            append_assoc f.written (take r.out out') (text_out row_listed (row line' r.begun.used r.begun.long) later)
            ∙ (ap (λ (x : List ℕ). f.written ++ x) (sym (done-listed block line' kernel' out' later r (ltb-false r.place (length block) k.1) (ltb-false r.at (length (take r.size kernel')) k.0))) ∙ went later);
      }

-- ---- block after block

pub passes_then : (a b line₀ line₁ line₂ : List ℕ) (used₀ used₁ used₂ : ℕ) (long₀ long₁ long₂ : Bool) → Passes a line₀ used₀ long₀ line₁ used₁ long₁ → Passes b line₁ used₁ long₁ line₂ used₂ long₂ →
    Passes (a ++ b) line₀ used₀ long₀ line₂ used₂ long₂
passes_then a b line₀ line₁ line₂ used₀ used₁ used₂ long₀ long₁ long₂ p q =
    record {
      written = p.written ++ q.written;
      same = λ later.
          append_assoc p.written q.written (text_out row_listed (row line₂ used₂ long₂) later)
          ∙ (ap (λ (x : List ℕ). p.written ++ x) (q.same later)
          ∙ (p.same (b ++ later) ∙ ap (text_out row_listed (row line₀ used₀ long₀)) (sym (append_assoc a b later))));
    }

-- what was put out for a text in blocks, with what the line begun then gives if the text ends there, is the whole
pub passes-listed : (text line line' : List ℕ) (used' : ℕ) (long' : Bool) → length line ≡ 131072 → (p : Passes text line 0 false line' used' long') →
    p.written ++ text_out row_listed (row line' used' long') [] ≡ listing_output text
unfolding listing_output
passes-listed text line line' used' long' h p =
    p.same [] ∙ (ap (text_out row_listed (row line 0 false)) (append-nil text) ∙ text-lines row_listed listed line (λ w l g. listed-agree w l (rw h at g)) text)
