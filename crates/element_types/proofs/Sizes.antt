-- What is known of every element size: it is 0, 1, 2, 4 or 8, and not 0 for a listed type.
use mathlib.Core.Path.{◌≡◌, refl}
use mathlib.Core.Bool.{Bool, true, false, cond}
use Prim.Native.Nat.{ℕ, ◌*◌, ◌/◌, ◌%◌, ◌≤◌, ◌<◌}
use native.Mathlib.Omega.{arith}
use lib.Dec.{eqb}
use borrow.Author.Tests.{ltb-true, lt-ltb, le-ltb}
use Rattle.element_types.specs.Types.{UD, D, UW, W, UB, B, F, UQ, size_of, is_listed}

either : (P : ℕ → Type 0) (b : Bool) {x y : ℕ} → P x → P y → P (cond b x y)
either P true p q = p
either P false p q = q

-- what holds of 0, 1, 2, 4 and 8 holds of every size
pub size-each : (P : ℕ → Type 0) → P 0 → P 1 → P 2 → P 4 → P 8 → (code : ℕ) → P (size_of code)
unfolding size_of
size-each P none one two four eight code =
    either P (eqb code UD) four
    (either P (eqb code D) four
    (either P (eqb code F) four
    (either P (eqb code UW) two
    (either P (eqb code W) two
    (either P (eqb code UB) one
    (either P (eqb code B) one
    (either P (eqb code UQ) eight none)))))))

pub size_small : (code : ℕ) → size_of code ≤ 8
size_small = size-each (λ size. size ≤ 8) (omega arith) (omega arith) (omega arith) (omega arith) (omega arith)

pub listed-size : (code : ℕ) → is_listed code ≡ true → 0 < size_of code
unfolding is_listed
listed-size code e = ltb-true 0 (size_of code) e

pub size-listed : (code : ℕ) → 0 < size_of code → is_listed code ≡ true
unfolding is_listed
size-listed code h = lt-ltb 0 (size_of code) h

pub unlisted : (code : ℕ) → size_of code ≡ 0 → is_listed code ≡ false
unfolding is_listed
unlisted code e = le-ltb 0 (size_of code) (omega arith)

-- what holds of 1, 2, 4 and 8 holds of the size of a listed type
pub listed-each : (P : ℕ → Type 0) → P 1 → P 2 → P 4 → P 8 → (code : ℕ) → is_listed code ≡ true → P (size_of code)
listed-each P one two four eight code e =
    size-each (λ size. 0 < size → P size) (λ (h : 0 < 0). absurd (omega arith)) (λ _. one) (λ _. two) (λ _. four) (λ _. eight) code
    (listed-size code e)

-- a register, of 32 bytes or of any multiple of 8, is a whole number of elements
pub register-whole : (register : ℕ) → register % 8 ≡ 0 → (code : ℕ) → is_listed code ≡ true → register / size_of code * size_of code ≡ register
register-whole register h =
    listed-each (λ size. register / size * size ≡ register) (omega arith) (omega arith) (omega arith) (omega arith)

-- the size of each listed type; 6 is the lowest code that is not listed
pub record Sizes : Type 0 where
  pub ud : size_of UD ≡ 4
  pub d : size_of D ≡ 4
  pub f : size_of F ≡ 4
  pub uw : size_of UW ≡ 2
  pub w : size_of W ≡ 2
  pub ub : size_of UB ≡ 1
  pub b : size_of B ≡ 1
  pub uq : size_of UQ ≡ 8
  pub six : size_of 6 ≡ 0

pub sizes : Sizes
unfolding size_of
sizes = record { ud = refl; d = refl; f = refl; uw = refl; w = refl; ub = refl; b = refl; uq = refl; six = refl }
