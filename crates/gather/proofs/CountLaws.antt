-- How many bytes of a dword are read: at most four, and byte j is read where j is below the count.
use Rattle.std.proofs.Common.{◌≡◌, ℕ, ◌+◌, ◌-◌, ◌<◌, ◌≤◌, min, Bool, true, false, ◌&&◌, ltb, sym, refl, ◌∙◌, ap₂, arith, ltb-false, ltb-true, le-ltb, lt-ltb}
use mathlib.Core.Bool.{and-true}
use Rattle.plan.specs.Plan.{Plan}
use Rattle.gather.specs.declared.Shape.{Shape}
use Rattle.gather_effect.specs.Gather.{is_read}
use Rattle.gather.specs.Mirror.FromRoom.{shape_of, bytes_read}

-- below the smaller is below both
below_both : (a b j : ℕ) → ltb j (min a b) ≡ (ltb j a && ltb j b)
below_both a b j = told (ltb j a) refl (ltb j b) refl
  where
    told : (u : Bool) → ltb j a ≡ u → (v : Bool) → ltb j b ≡ v → ltb j (min a b) ≡ (ltb j a && ltb j b)
    told true f true g = rw (f, g) (lt-ltb j (min a b) (omega (arith, ltb-true j a f, ltb-true j b g)))
    told true f false g = rw (f, g) (le-ltb j (min a b) (omega (arith, ltb-false j b g)))
    told false f v g = rw f (le-ltb j (min a b) (omega (arith, ltb-false j a f)))

-- what is left of a surface past an address
past-address : (length address j : ℕ) → ltb j (length - address) ≡ ltb (address + j) length
past-address length address j = told (ltb (address + j) length) refl
  where
    told : (t : Bool) → ltb (address + j) length ≡ t → ltb j (length - address) ≡ ltb (address + j) length
    told true e = rw (e, lt-ltb j (length - address) (omega (arith, ltb-true (address + j) length e)))
    told false e = rw (e, le-ltb j (length - address) (omega (arith, ltb-false (address + j) length e)))

pub count_small : (s : Shape) (address : ℕ) → bytes_read s address ≤ 4
unfolding bytes_read
count_small s address = omega arith

pub read_below : (p : Plan) (address j : ℕ) → j < 4 → is_read p address j ≡ ltb j (bytes_read (shape_of p) address)
unfolding is_read bytes_read
read_below p address j h =
    let four : ltb j (min p.bytes 4) ≡ ltb j p.bytes = below_both p.bytes 4 j ∙ rw (lt-ltb j 4 h) (and-true (ltb j p.bytes)) in
    sym (below_both (min p.bytes 4) (p.length - address) j ∙ ap₂ ◌&&◌ four (past-address p.length address j))

-- the count, as code works it out
module _ (s : Shape) (address block : ℕ) (four : block ≡ min s.block 4) where
  pub count-told : (r : ℕ) → r ≡ min block (s.length - address) → r ≡ bytes_read s address
  unfolding bytes_read
  count-told r e = rw (← four) e

  pub none_told : s.length ≤ address → 0 ≡ bytes_read s address
  unfolding bytes_read
  none_told over = omega arith

  pub count_fits : (r : ℕ) → r ≡ min block (s.length - address) → r < 256
  count_fits r e = omega (arith, count_small s address, count-told r e)
