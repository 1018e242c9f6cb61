-- The bounds of numbers that were read, by which the code's sums and casts fit.
use mathlib.Core.Path.{◌≡◌, refl}
use mathlib.Core.List.{List}
use Prim.Native.Nat.{ℕ, ◌+◌, ◌≤◌, ◌<◌}
use native.Mathlib.Omega.{arith}
use Rattle.formats.specs.Words.{words, one_of}
use Rattle.formats.specs.Numbers.{number}
use Rattle.std.specs.Prelude.{Result, Ok}
use Rattle.formats.specs.Told.{told}
use Rattle.formats.specs.declared.Cursor.{Cursor}
use Rattle.formats.specs.declared.Stop.{Stop}
use Rattle.formats.proofs.Law.{free}
use Rattle.formats.proofs.TableTests.{sound, size}
use Rattle.formats.proofs.AnswerLaws.{told-good, word-under, number-between}
use Rattle.control_texts.specs.Mirror.Predicate.{openings, ending}
use Rattle.control_texts.specs.Mirror.Exec.{mask_endings, sizes, scatter_sizes, mask}
use Rattle.control_texts.proofs.PredicateLaws.{bracket, ending-lawful, ending-under}
use Rattle.control_texts.proofs.ExecLaws.{mask-lawful, mask-under}

module _ (s : List ℕ) (at : ℕ) (r : Result (ℕ × Cursor) Stop) (x : ℕ × Cursor) where
  pub opening-bound : told r ≡ (one_of (words openings)).read s at → r ≡ Ok x → x.0 < 3
  unfolding sound size
  opening-bound = word-under openings bracket refl s at r x

  pub id-bound : told r ≡ (number 10 0 4095).read s at → r ≡ Ok x → x.0 ≤ 4095
  id-bound e g = (number-between 10 0 4095 (omega arith) (omega arith) (omega arith) (omega arith) s at r x e g).1

  pub ending-bound : (k m : ℕ) → told r ≡ (ending k m).read s at → r ≡ Ok x → x.0 < 3
  ending-bound k m e g = (ending-under k m x.0 (told-good (ending-lawful k m) s at r x e g)).0

  pub mask-number-bound : told r ≡ (number 10 1 8).read s at → r ≡ Ok x → (1 ≤ x.0) × (x.0 ≤ 8)
  mask-number-bound = number-between 10 1 8 (omega arith) (omega arith) (omega arith) (omega arith) s at r x

  pub mask-ending-bound : told r ≡ (one_of (words mask_endings)).read s at → r ≡ Ok x → x.0 < 2
  unfolding sound size
  mask-ending-bound = word-under mask_endings free refl s at r x

  pub mask_bound : told r ≡ mask.read s at → r ≡ Ok x → x.0 < 16
  mask_bound e g = mask-under x.0 (told-good mask-lawful s at r x e g)

  pub size-bound : told r ≡ (one_of (words sizes)).read s at → r ≡ Ok x → 0 + x.0 < 6
  unfolding sound size
  size-bound e g = let h : x.0 < 6 = word-under sizes free refl s at r x e g in omega (arith, h)

  pub scatter-size-bound : told r ≡ (one_of (words scatter_sizes)).read s at → r ≡ Ok x → 3 + x.0 < 6
  unfolding sound size
  scatter-size-bound e g = let h : x.0 < 2 = word-under scatter_sizes free refl s at r x e g in omega (arith, h)

pub ruleset predicate_bounds = (opening-bound, id-bound, ending-bound)

pub ruleset mask_bounds = (mask-number-bound, mask-ending-bound)

pub ruleset exec_bounds = (mask_bound, scatter-size-bound)
