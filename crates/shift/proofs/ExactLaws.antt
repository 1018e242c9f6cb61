-- Laws of `exactly`: without a sign it is the lowest bytes, and with one it is congruent to them.
use Rattle.std.proofs.Common.{◌≡◌, ℕ, zero, suc, ◌-◌, ◌*◌, ◌%◌, ◌<◌, Bool, true, false, cond, ◌&&◌, leb, pos, negsuc, ◌-ℤ◌, refl, mod-lt, mod-eq_of_lt, arith, lt-ltb}
use Rattle.shift.specs.Exact.{span, lowest, exactly, modulo}
use Rattle.shift.proofs.SpanLaws.{span-some}

pub lowest-small : (size x : ℕ) → lowest size x < span size
unfolding lowest
lowest-small size x = mod-lt x (span-some size)

pub difference : (a b : ℕ) → a < b → pos a -ℤ pos b ≡ negsuc (b - suc a)
difference a zero h = absurd (omega arith)
difference a (suc b) h = rw (lt-ltb a (suc b) h)

pub exactly-unsigned : (size x : ℕ) → exactly false size x ≡ pos (lowest size x)
unfolding exactly
exactly-unsigned size x = refl

-- a number below m, and one that much less m, have the same remainder
remainder : (negative : Bool) (low m : ℕ) → low < m → modulo (cond negative (pos low -ℤ pos m) (pos low)) m ≡ low
unfolding modulo
remainder true low m h =
    let e : (m - suc low) % m ≡ m - suc low = mod-eq_of_lt (omega arith) in
    rw (difference low m h, e) (omega arith)
remainder false low m h = mod-eq_of_lt h

pub exactly-congruent : (signed : Bool) (size x : ℕ) → modulo (exactly signed size x) (span size) ≡ lowest size x
unfolding exactly
exactly-congruent signed size x =
    remainder (signed && leb (span size) (2 * lowest size x)) (lowest size x) (span size) (lowest-small size x)
