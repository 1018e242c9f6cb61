-- The whole output: the 40 line, and the buffers unless the number is 13 or 14.
use mathlib.Core.Path.{◌≡◌, sym, ap, ◌∙◌}
use mathlib.Core.Bool.{cond, true, false, ◌||◌}
use mathlib.Core.Logic.{◌⊎◌, ⊎_elim}
use mathlib.Core.List.{List, [], ◌++◌, append-nil}
use Prim.Native.Nat.{ℕ}
use borrow.Author.Tests.{eq-eqb, ne_eqb}
use lib.Dec.{eqb}
use lib.ListN.{length, take}
use Prim.Native.Nat.{◌≤◌}
use Rattle.output.specs.Mirror.Page.{Page, page, written}
use Rattle.output.specs.Output.{answer_line, output_bytes}
use Rattle.output.proofs.PageLaws.{written_then, written-whole}

thirteen : (number : ℕ) → number ≡ 13 → (eqb number 13 || eqb number 14) ≡ true
thirteen number e = rw (eq-eqb number 13 e)

fourteen : (number : ℕ) → number ≡ 14 → (eqb number 13 || eqb number 14) ≡ true
fourteen number e = rw e

neither : (number : ℕ) → (number ≡ 13 → ⊥) → (number ≡ 14 → ⊥) → (eqb number 13 || eqb number 14) ≡ false
neither number f g = rw (ne_eqb number 13 f, ne_eqb number 14 g)

only-answer : (number completed position : ℕ) (buffers : List ℕ) → (eqb number 13 || eqb number 14) ≡ true → answer_line number completed position ≡ output_bytes number completed position buffers
unfolding output_bytes
only-answer number completed position buffers e = rw e (sym (append-nil (answer_line number completed position)))

pub answer_only : (number completed position : ℕ) (buffers : List ℕ) (p q : Page) → (number ≡ 13) ⊎ (number ≡ 14) →
    q ≡ written (answer_line number completed position) p → q ≡ written (output_bytes number completed position buffers) p
answer_only number completed position buffers p q e h =
    h ∙ ap (λ (l : List ℕ). written l p) (only-answer number completed position buffers (⊎_elim (thirteen number) (fourteen number) e))

pub answer_buffers : (number completed position : ℕ) (buffers : List ℕ) (p q r : Page) → (number ≡ 13 → ⊥) → (number ≡ 14 → ⊥) →
    q ≡ written (answer_line number completed position) p → r ≡ written buffers q → r ≡ written (output_bytes number completed position buffers) p
unfolding output_bytes
answer_buffers number completed position buffers p q r e f =
    let line = answer_line number completed position in
    written_then line buffers (line ++ cond (eqb number 13 || eqb number 14) [] buffers) p q r (rw (neither number e f))

-- a buffer that is long enough holds the whole output
pub output-whole : (number completed position : ℕ) (buffers out after : List ℕ) (used : ℕ) → length (output_bytes number completed position buffers) ≤ length out →
    page after used ≡ written (output_bytes number completed position buffers) (page out 0) → take used after ≡ output_bytes number completed position buffers
output-whole number completed position buffers out after used h e =
    ap (λ (p : Page). take p.used p.buffer) e ∙ written-whole (output_bytes number completed position buffers) out h
