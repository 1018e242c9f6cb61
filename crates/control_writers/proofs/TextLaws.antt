-- What the text of each part is made of, piece by piece as the code writes it.
use mathlib.Core.Path.{◌≡◌, refl}
use mathlib.Core.List.{◌++◌}
use mathlib.Core.Bool.{Bool, true, false, ◌&&◌}
use lib.Dec.{eqb}
use Prim.Native.Nat.{ℕ, ◌+◌, ◌-◌, ◌/◌, ◌%◌}
use native.Mathlib.Nat.{sub-zero}
use borrow.Author.Tests.{eq-eqb}
use Rattle.formats.specs.Text.{text}
use Rattle.formats.specs.Format.{pair, through, blank}
use Rattle.formats.specs.Words.{words, word_at, one_of, before}
use Rattle.formats.specs.Numerals.{digits_of}
use Rattle.formats.specs.Numbers.{number}
use Rattle.exec_byte.specs.declared.Exec.{Exec}
use Rattle.exec_byte.specs.Exec.{exec_of}
use Rattle.control_texts.specs.Mirror.Predicate.{openings, endings, group_endings, ending, id_and_ending, predicate}
use Rattle.control_texts.proofs.PrintLaws.{some-print}
use Rattle.control_texts.specs.Mirror.Exec.{mask_endings, sizes, scatter_sizes, mask_parts, mask, mask_place, size_place, exec_from, exec, scatter_exec}

-- ---- the predicate

pub group-ending : (opening id end : ℕ) (b : Bool) → b ≡ (eqb opening 1 && eqb id 0) → b ≡ true → (ending opening id).print end ≡ word_at (words group_endings) end
unfolding ending one_of
group-ending opening id end b e h = rw (← e, h)

pub any-ending : (opening id end : ℕ) (b : Bool) → b ≡ (eqb opening 1 && eqb id 0) → b ≡ false → (ending opening id).print end ≡ word_at (words endings) end
unfolding ending one_of
any-ending opening id end b e h = rw (← e, h)

pub no-predicate : (p : ℕ) → p ≡ 0 → predicate.print p ≡ word_at (words openings) 0
unfolding predicate through pair id_and_ending blank one_of words word_at
no-predicate p e = rw (eq-eqb p 0 e)

pub one-predicate : (p word : ℕ) → word ≡ p → (p ≡ 0 → ⊥) →
    predicate.print p ≡ word_at (words openings) (1 + word / 32768) ++ (digits_of 10 (word % 4096) ++ (ending (1 + word / 32768) (word % 4096)).print ((word / 8192 % 4 + 2) % 3))
one-predicate p word e n = rw e (some-print p n)

-- ---- the exec byte

pub mask-text : (m : ℕ) → mask.print m ≡ word_at (words (text "(M|")) 0 ++ (digits_of 10 (m % 8 + 1) ++ word_at (words mask_endings) (m / 8))
unfolding mask mask_parts through before pair number one_of
mask-text m = refl

module _ (byte m z : ℕ) (e : Exec) (split : e ≡ exec_of byte) (mask_is : m ≡ mask_place e) (size_is : z ≡ size_place e.size) where
  pub exec-text : exec.print byte ≡ mask.print m ++ word_at (words sizes) z
  unfolding exec exec_from through pair one_of
  exec-text = rw (mask_is, size_is, split, sub-zero)

  pub scatter-exec-text : (k : ℕ) → k ≡ z - 3 → scatter_exec.print byte ≡ mask.print m ++ word_at (words scatter_sizes) k
  unfolding scatter_exec exec_from through pair one_of
  scatter-exec-text k p = rw (p, mask_is, size_is, split)
