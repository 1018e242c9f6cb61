-- The window test without a sum that could wrap: the window has four bytes, the address is not before it, and no more than its length less
-- four past its base.
use Rattle.std.proofs.Common.{◌≡◌, ℕ, ◌+◌, ◌-◌, ◌<◌, ◌≤◌, Bool, true, false, not, ◌&&◌, ltb, leb, sym, refl, arith, ltb-false, ltb-true, le-leb, leb-true}
use borrow.Author.Tests.{lt-leb}
use Rattle.scatter_effect.specs.Scatter.{outside}

module _ (base length address : ℕ) where
  pub window-short : length < 4 → true ≡ outside (record { base = base; length = length }) address
  unfolding outside
  window-short h = asked (leb base address) refl
    where
      asked : (t : Bool) → leb base address ≡ t → true ≡ not (t && leb (address + 4) (base + length))
      asked true e = sym (rw (lt-leb (address + 4) (base + length) (omega (arith, leb-true base address e))))
      asked false e = refl

  pub window-before : address < base → true ≡ outside (record { base = base; length = length }) address
  unfolding outside
  window-before h = rw (lt-leb base address h)

  pub window-told : 4 ≤ length → base ≤ address → ltb (length - 4) (address - base) ≡ outside (record { base = base; length = length }) address
  unfolding outside
  window-told h g = rw (le-leb base address g) (asked (ltb (length - 4) (address - base)) refl)
    where
      asked : (t : Bool) → ltb (length - 4) (address - base) ≡ t → t ≡ not (leb (address + 4) (base + length))
      asked true e = rw (lt-leb (address + 4) (base + length) (omega (arith, ltb-true (length - 4) (address - base) e)))
      asked false e = rw (le-leb (address + 4) (base + length) (omega (arith, ltb-false (length - 4) (address - base) e)))
