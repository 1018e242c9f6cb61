-- What has been put out, with what is to come, stays the same from step to step; at the start it is the whole output.
use mathlib.Core.Path.{◌≡◌, refl, sym, ap, ◌∙◌, subst}
use mathlib.Core.Bool.{Bool, false}
use mathlib.Core.List.{List, [], ◌++◌, append_assoc, append-nil}
use Prim.Native.Nat.{ℕ, ◌+◌, ◌-◌, ◌≤◌, ◌<◌}
use native.Mathlib.Omega.{arith}
use lib.ListN.{length, take, drop}
use Rattle.format_writers.specs.Writing.{wrote, written}
use Rattle.format_writers.proofs.WritingLaws.{room-takes}
use Rattle.line_blocks.specs.Mirror.Rows.{Row, row, all_pushed, line_length}
use Rattle.line_blocks.specs.Mirror.TextOut.{cleared, text_out}
use Rattle.line_blocks.proofs.RowLaws.{Begun, begun-text}
use Rattle.line_blocks.proofs.TextOutLaws.{text-lines, part_out, line-out, over-out}
use Rattle.assembler.specs.declared.State.{State}
use Rattle.assembler.specs.Assembling.{assembled_line, assembler_output}
use Rattle.assembler.specs.Mirror.Parts.{row_assembled, whole, Goes, Passes}
use Rattle.assembler.proofs.EncodedLaws.{start-assembled}

abbrev pub state : ℕ → Bool → ℕ → ℕ → State
state used long out place = record { begun = record { used = used; long = long }; out = out; place = place }

-- ---- more of the block

-- a line is put out
abbrev pub Puts : List ℕ → List ℕ → ℕ → List ℕ → ℕ → Type 0
Puts characters out at after e = (wrote e after ≡ written out at (assembled_line characters)) × (length (assembled_line characters) ≤ 256)

module _ (block line out : List ℕ) (s : State) (end : ℕ) (line' : List ℕ) (used : ℕ) (long : Bool)
    (e : end ≡ s.place + line_length (drop s.place block)) (p : row line' used long ≡ all_pushed (take (end - s.place) (drop s.place block)) (row line s.begun.used s.begun.long))
    (r : s.out + 256 ≤ length out) where
  pub part-goes : Goes block line out s line' out (state used long s.out end)
  unfolding whole
  part-goes =
      record {
        same = λ later. ap (λ (x : List ℕ). take s.out out ++ x) (part_out row_assembled block later s.place end (row line s.begun.used s.begun.long) (row line' used long) e p);
        inside = omega (arith, r);
      }

  pub line-goes : (characters out' : List ℕ) (o : ℕ) → characters ≡ take used line' → s.place < length block → end < length block → Puts characters out s.out out' o →
      Goes block line out s line' out' (state 0 false o (end + 1))
  unfolding whole row_assembled
  line-goes characters out' o c h l puts =
      let t = subst (λ (x : List ℕ). Puts x out s.out out' o) c puts in
      let w = room-takes out (assembled_line (take used line')) s.out o out' (omega (arith, r, t.1)) t.0 in
      record {
        same = λ later.
            let rest = text_out row_assembled (cleared (row line' used long)) (drop (end + 1) block ++ later) in
            ap (λ (x : List ℕ). x ++ rest) w.0
            ∙ (append_assoc (take s.out out) (assembled_line (take used line')) rest
            ∙ ap (λ (x : List ℕ). take s.out out ++ x)
            (sym (line-out row_assembled block later s.place end (row line' used long) h e l)
            ∙ part_out row_assembled block later s.place end (row line s.begun.used s.begun.long) (row line' used long) e p));
        inside = w.1;
      }

-- ---- from step to step

pub goes_none : (block line out : List ℕ) (s : State) → s.out ≤ length out → Goes block line out s line out s
goes_none block line out s h = record { same = λ later. refl; inside = h }

pub goes_on : (block line out line' out' line'' out'' : List ℕ) (s r q : State) → Goes block line out s line' out' r → Goes block line' out' r line'' out'' q → Goes block line out s line'' out'' q
goes_on block line out line' out' line'' out'' s r q f g = record { same = λ later. g.same later ∙ f.same later; inside = g.inside }

-- ---- the whole

-- of a line that was too long its start is kept, and that is as good
pub assembled-agree : (w : Row) (line : List ℕ) → Begun 128 w line → row_assembled w ≡ assembled_line line
unfolding row_assembled
assembled-agree w line g = ap assembled_line (begun-text 128 w line g) ∙ start-assembled line

-- a text in a line buffer of 128 characters, nothing put out before
pub whole-assembled : (block line out later : List ℕ) → length line ≡ 128 → whole block line out (state 0 false 0 0) later ≡ assembler_output (block ++ later)
unfolding whole assembler_output
whole-assembled block line out later h = text-lines row_assembled assembled_line line (λ w l g. assembled-agree w l (rw h at g)) (block ++ later)

-- where nothing of the block is left, what is to come is what the next block is read from
done-assembled : (block line out later : List ℕ) (s : State) → length block ≤ s.place → whole block line out s later ≡ take s.out out ++ text_out row_assembled (row line s.begun.used s.begun.long) later
unfolding whole
done-assembled block line out later s h = ap (λ (x : List ℕ). take s.out out ++ x) (over-out row_assembled block later s.place (row line s.begun.used s.begun.long) h)

-- ---- a block, its output written now and then

pub record SoFar (block line₀ : List ℕ) (used₀ : ℕ) (long₀ : Bool) (line out : List ℕ) (s : State) : Type 0 where
  pub written : List ℕ
  pub same : (later : List ℕ) → written ++ whole block line out s later ≡ text_out row_assembled (row line₀ used₀ long₀) (block ++ later)
  pub inside : s.out ≤ length out

pub far_none : (block line out : List ℕ) (used : ℕ) (long : Bool) → SoFar block line used long line out (state used long 0 0)
unfolding whole
far_none block line out used long = record { written = []; same = λ later. refl; inside = omega arith }

module _ (block line₀ : List ℕ) (used₀ : ℕ) (long₀ : Bool) (line out : List ℕ) (s : State) (line' out' : List ℕ) (r : State)
    (f : SoFar block line₀ used₀ long₀ line out s) (g : Goes block line out s line' out' r) where
  went : (later : List ℕ) → f.written ++ whole block line' out' r later ≡ text_out row_assembled (row line₀ used₀ long₀) (block ++ later)
  went later = ap (λ (x : List ℕ). f.written ++ x) (g.same later) ∙ f.same later

  -- what is written goes out of the buffer
  pub far-more : SoFar block line₀ used₀ long₀ line' out' (state r.begun.used r.begun.long 0 r.place)
  unfolding whole
  far-more =
      record {
        written = f.written ++ take r.out out';
        same = λ later. append_assoc f.written (take r.out out') (text_out row_assembled (row line' r.begun.used r.begun.long) (drop r.place block ++ later)) ∙ went later;
        inside = omega arith;
      }

  -- nothing is left
  pub far-done : length block ≤ r.place → Passes block line₀ used₀ long₀ line' r.begun.used r.begun.long
  far-done h =
      record {
        written = f.written ++ take r.out out';
        same = λ later.
            append_assoc f.written (take r.out out') (text_out row_assembled (row line' r.begun.used r.begun.long) later)
            ∙ (ap (λ (x : List ℕ). f.written ++ x) (sym (done-assembled block line' out' later r h)) ∙ went later);
      }

-- ---- block after block

pub passes_then : (a b line₀ line₁ line₂ : List ℕ) (used₀ used₁ used₂ : ℕ) (long₀ long₁ long₂ : Bool) → Passes a line₀ used₀ long₀ line₁ used₁ long₁ → Passes b line₁ used₁ long₁ line₂ used₂ long₂ →
    Passes (a ++ b) line₀ used₀ long₀ line₂ used₂ long₂
passes_then a b line₀ line₁ line₂ used₀ used₁ used₂ long₀ long₁ long₂ p q =
    record {
      written = p.written ++ q.written;
      same = λ later.
          append_assoc p.written q.written (text_out row_assembled (row line₂ used₂ long₂) later)
          ∙ (ap (λ (x : List ℕ). p.written ++ x) (q.same later)
          ∙ (p.same (b ++ later) ∙ ap (text_out row_assembled (row line₀ used₀ long₀)) (sym (append_assoc a b later))));
    }

-- what was put out for a text in blocks, with what the line begun then gives if the text ends there, is the whole
pub passes-assembled : (text line line' : List ℕ) (used' : ℕ) (long' : Bool) → length line ≡ 128 → (p : Passes text line 0 false line' used' long') →
    p.written ++ text_out row_assembled (row line' used' long') [] ≡ assembler_output text
unfolding assembler_output
passes-assembled text line line' used' long' h p =
    p.same [] ∙ (ap (text_out row_assembled (row line 0 false)) (append-nil text) ∙ text-lines row_assembled assembled_line line (λ w l g. assembled-agree w l (rw h at g)) text)
