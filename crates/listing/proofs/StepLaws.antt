-- One line of a listing: how it is written, how long it is, and that it is the first of those to come.
use mathlib.Core.Path.{◌≡◌, refl, sym, ap, ◌∙◌}
use mathlib.Core.Bool.{Bool, true, false, cond}
use mathlib.Core.List.{List, [], ◌∷◌, ◌++◌}
use Prim.Native.Nat.{ℕ, zero, suc, ◌+◌, ◌≤◌, ◌<◌}
use native.Mathlib.Omega.{arith}
use lib.Dec.{ltb}
use lib.ListN.{length, length-append}
use borrow.Author.Tests.{lt-ltb, le-ltb, ltb-true}
use Rattle.little_endian.specs.LittleEndian.{Bytes}
use Rattle.reader.specs.Reply.{Reply, refused, done, Read, got, on_reply}
use Rattle.formats.specs.Text.{text}
use Rattle.formats.specs.Words.{words, word_at}
use Rattle.formats.specs.Numerals.{digits_of}
use Rattle.formats.specs.Numbers.{number}
use Rattle.format_writers.specs.Writing.{wrote, written}
use Rattle.formats.proofs.ShortLaws.{digits-most}
use Rattle.format_writers.specs.declared.Page.{Page}
use Rattle.format_writers.specs.Pages.{Writes}
use Rattle.format_writers.proofs.PageLaws.{writes_then}
use Rattle.decoder.specs.declared.Instruction.{Instruction}
use Rattle.decoder.specs.Decoding.{instruction_at}
use Rattle.decoder.proofs.Laws.{accepted-within}
use Rattle.lines.specs.Mirror.Line.{line}
use Rattle.lines.specs.LineOf.{line_of}
use Rattle.line_blocks.specs.LinesOf.{line_end}
use Rattle.listing.specs.Listing.{refusal_line, step_text, step_next, steps, listed_from}
use Rattle.listing.proofs.DecodedLaws.{decoded-prints}

-- ---- written piece by piece

abbrev feed : List ℕ
feed = 0x0a ∷ 0x7c ∷ []

pub refusal-written : {a b c d e f : Page} (number position : ℕ) → Writes a b (word_at (words (text "! |")) 0) → Writes b c (digits_of 10 number) →
    Writes c d (word_at (words (text " |")) 0) → Writes d e (digits_of 10 position) → Writes e f (word_at (words feed) 0) → Writes a f (refusal_line number position)
unfolding refusal_line words word_at
refusal-written number position p q r s t = writes_then p (writes_then q (writes_then r (writes_then s t)))

pub line-written : {a b c : Page} {t : List ℕ} → Writes a b t → Writes b c (word_at (words feed) 0) → Writes a c (t ++ line_end)
unfolding words word_at
line-written p q = writes_then p q

-- ---- how long it is

pub refusal-short : (number position : ℕ) → number < 18446744073709551616 → position < 18446744073709551616 → length (refusal_line number position) ≤ 256
unfolding refusal_line
refusal-short number position h k =
    let a = digits-most number h in
    let b = digits-most position k in
    let c = length-append (digits_of 10 position) line_end in
    let d = length-append (digits_of 10 number) (text " " ++ (digits_of 10 position ++ line_end)) in
    omega (arith, a, b, c, d)

-- ---- the instruction at a position

-- written, where listing goes on, and how long it is
abbrev pub StepPut : List ℕ → ℕ → List ℕ → ℕ → ℕ → List ℕ → ℕ → Type 0
StepPut kernel at l used e m next = (wrote e m ≡ written l used (step_text kernel at)) × ((next ≡ step_next kernel at) × (length (step_text kernel at) ≤ 256))

pub step-accepted : (kernel l m : List ℕ) (at used e next : ℕ) (i : Instruction) → Bytes kernel → instruction_at kernel at ≡ got i next →
    wrote e m ≡ written l used (line.print i ++ line_end) → StepPut kernel at l used e m next
unfolding step_text step_next
step-accepted kernel l m at used e next i b d p =
    let k = decoded-prints kernel at i next b d in
    let f = k.1 in
    rw d (
      p ∙ ap (λ (t : List ℕ). written l used (t ++ line_end)) k.0,
      (refl, omega (arith, f, length-append (line_of i) line_end)),
    )

pub step-refused : (kernel l m : List ℕ) (at used e n : ℕ) → n < 256 → at < 18446744073709551616 → instruction_at kernel at ≡ refused n →
    wrote e m ≡ written l used (refusal_line n at) → StepPut kernel at l used e m (length kernel)
unfolding step_text step_next
step-refused kernel l m at used e n h k d p = rw d (p, (refl, refusal-short n at (omega (arith, h)) k))

-- ---- the lines to come

module _ (kernel : List ℕ) (b : Bytes kernel) where
  step_past : (at : ℕ) → at < length kernel → at < step_next kernel at
  unfolding step_next
  step_past at h = told (instruction_at kernel at) refl
    where
      told : (a : Reply (Read Instruction)) → instruction_at kernel at ≡ a → at < on_reply a (λ n. length kernel) (λ r. r.next)
      told (refused n) e = h
      told (done r) e = (accepted-within kernel at r.value r.next b e).past

  more-steps : (n at : ℕ) → length kernel ≤ n + at → steps (suc n) kernel at ≡ steps n kernel at
  unfolding steps
  more-steps zero at h = rw (le-ltb at (length kernel) (omega (arith, h)))
  more-steps (suc n) at h = told (ltb at (length kernel)) refl (λ k. more-steps n (step_next kernel at) (omega (arith, h, step_past at k)))
    where
      told : (q : Bool) → ltb at (length kernel) ≡ q → (at < length kernel → steps (suc n) kernel (step_next kernel at) ≡ steps n kernel (step_next kernel at)) →
          cond q (step_text kernel at ++ steps (suc n) kernel (step_next kernel at)) [] ≡ cond q (step_text kernel at ++ steps n kernel (step_next kernel at)) []
      told true e k = ap (λ (l : List ℕ). step_text kernel at ++ l) (k (ltb-true at (length kernel) e))
      told false e k = refl

  first_step : (n at : ℕ) → at < length kernel → length kernel ≤ n → steps n kernel at ≡ step_text kernel at ++ steps n kernel (step_next kernel at)
  unfolding steps
  first_step zero at h k = absurd (omega (arith, h, k))
  first_step (suc n) at h k =
      rw (lt-ltb at (length kernel) h)
      (ap (λ (l : List ℕ). step_text kernel at ++ l) (sym (more-steps n (step_next kernel at) (omega (arith, k, step_past at h)))))

  pub listed-step : (at : ℕ) → at < length kernel → listed_from kernel at ≡ step_text kernel at ++ listed_from kernel (step_next kernel at)
  unfolding listed_from
  listed-step at h = first_step (length kernel) at h (omega arith)

-- nothing is to come from the end on
steps-over : (n : ℕ) (kernel : List ℕ) (at : ℕ) → length kernel ≤ at → steps n kernel at ≡ []
unfolding steps
steps-over zero kernel at h = refl
steps-over (suc n) kernel at h = rw (le-ltb at (length kernel) h)

pub listed-over : (kernel : List ℕ) (at : ℕ) → length kernel ≤ at → listed_from kernel at ≡ []
unfolding listed_from
listed-over kernel at h = steps-over (length kernel) kernel at h
