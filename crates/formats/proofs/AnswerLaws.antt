-- What a caller may know of a number that was read: it is good, so it lies below the number of words or in the range.
use mathlib.Core.Path.{◌≡◌, sym, ap, ◌∙◌}
use mathlib.Core.List.{List}
use mathlib.Core.Bool.{Bool, true}
use Prim.Native.Nat.{ℕ, ◌≤◌, ◌<◌}
use Rattle.std.specs.Prelude.{Result, Ok}
use Rattle.formats.specs.Format.{Format}
use Rattle.formats.specs.Words.{words, one_of}
use Rattle.formats.specs.Numbers.{number}
use Rattle.formats.specs.Told.{told}
use Rattle.formats.specs.declared.Cursor.{Cursor}
use Rattle.formats.specs.declared.Stop.{Stop}
use Rattle.formats.proofs.Law.{Lawful, read-good}
use Rattle.formats.proofs.TableTests.{sound, size, table-under}
use Rattle.formats.proofs.WordLaws.{table-lawful}
use Rattle.formats.proofs.NumberLaws.{number-under, number-lawful}

pub told-good : {f : Format ℕ} {m : ℕ → Bool} → Lawful f m → (s : List ℕ) (at : ℕ) (r : Result (ℕ × Cursor) Stop) (x : ℕ × Cursor) → told r ≡ f.read s at → r ≡ Ok x → f.good x.0 ≡ true
told-good law s at r x e g = read-good law s at x.0 x.1.at (sym e ∙ ap told g)

pub word-under : (p : List ℕ) (m : ℕ → Bool) → sound m p ≡ true → (s : List ℕ) (at : ℕ) (r : Result (ℕ × Cursor) Stop) (x : ℕ × Cursor) → told r ≡ (one_of (words p)).read s at → r ≡ Ok x → x.0 < size p
word-under p m k s at r x e g = table-under p x.0 (told-good (table-lawful p m k) s at r x e g)

pub number-between : (b low high : ℕ) → 2 ≤ b → b ≤ 16 → low ≤ 1 → low ≤ high → (s : List ℕ) (at : ℕ) (r : Result (ℕ × Cursor) Stop) (x : ℕ × Cursor) → told r ≡ (number b low high).read s at → r ≡ Ok x → (low ≤ x.0) × (x.0 ≤ high)
number-between b low high two small one some s at r x e g = number-under b low high x.0 (told-good (number-lawful b low high two small one some) s at r x e g)
