-- What the code works out, modulo 2^64, is the exact shift: once over all sizes of at most four bytes.
use Rattle.std.proofs.Common.{◌≡◌, ℕ, suc, ◌+◌, ◌-◌, ◌*◌, ◌%◌, ◌^◌, ◌<◌, ◌≤◌, Bool, true, false, ◌&&◌, leb, pos, ◌*ℤ◌, sym, ◌∙◌, mod-eq_of_lt, arith, le-leb}
use Rattle.shift.specs.Exact.{span, lowest, exactly, modulo, shifted}
use Rattle.shift.specs.Mirror.Total.{total_shift}
use Rattle.shift.proofs.SpanLaws.{power-some, span-some, span_small, span-whole, span-twice}
use Rattle.shift.proofs.ExactLaws.{lowest-small, difference}
use Rattle.shift.proofs.RemainderLaws.{modulo-small}
use Rattle.shift.proofs.ResidueLaws.{residue-times}

-- the residue of a number that is not negative, and of one that is
module _ (signed : Bool) (size x all low : ℕ) (small : size ≤ 4) (a : all ≡ span size) (l : low ≡ x % all) where
  same : low ≡ lowest size x
  unfolding lowest
  same = rw (← a) l

  pub residue-plain : (signed && leb all (2 * low)) ≡ false → low ≡ modulo (exactly signed size x) (2 ^ 64)
  unfolding exactly modulo
  residue-plain e =
      let bound = lowest-small size x in
      let limit = span_small size small in
      let e' : (signed && leb (span size) (2 * lowest size x)) ≡ false = rw (a, same) at e in
      rw (e', same) (sym (mod-eq_of_lt (omega arith)))

  pub residue-negative : (r : ℕ) → (signed && leb all (2 * low)) ≡ true → r < 2 ^ 64 → (r + all) % 2 ^ 64 ≡ low → r ≡ modulo (exactly signed size x) (2 ^ 64)
  unfolding exactly modulo
  residue-negative r e fits wraps =
      let bound = lowest-small size x in
      let limit = span_small size small in
      let s = same in
      let e' : (signed && leb (span size) (2 * lowest size x)) ≡ true = rw (a, same) at e in
      let m : (span size - suc (lowest size x)) % 2 ^ 64 ≡ span size - suc (lowest size x) = mod-eq_of_lt (omega arith) in
      rw (e', difference (lowest size x) (span size) bound, m) (omega arith)

-- the residue times a power of two, modulo the destination
pub product-shifted : (signed : Bool) (size x count destination r all : ℕ) → destination ≤ 4 → r ≡ modulo (exactly signed size x) (2 ^ 64) → all ≡ span destination → r * 2 ^ (count % 32) % 2 ^ 64 % all ≡ shifted signed size x count destination
unfolding shifted
product-shifted signed size x count destination r all small e a =
    let p = 2 ^ (count % 32) in
    let law = residue-times (exactly signed size x) (span destination) (2 ^ (64 - 8 * destination)) p (span-some destination) (power-some (64 - 8 * destination)) (power-some (count % 32)) in
    let law' : modulo (exactly signed size x) (2 ^ 64) * p % span destination ≡ modulo (exactly signed size x *ℤ pos p) (span destination) = rw (← span-whole destination small) at law in
    rw a (span-twice destination (r * p) small ∙ rw e law')

-- of at most four bytes, the shift is the exact one
pub total-is : (signed : Bool) (size x count destination : ℕ) → size ≤ 4 → destination ≤ 4 → total_shift signed size x count destination ≡ shifted signed size x count destination
unfolding total_shift
total-is signed size x count destination s d = rw (le-leb size 4 s, le-leb destination 4 d)

-- the result fits its destination
pub shifted-small : (signed : Bool) (size x count destination : ℕ) → shifted signed size x count destination < span destination
unfolding shifted
shifted-small signed size x count destination =
    modulo-small (exactly signed size x *ℤ pos (2 ^ (count % 32))) (span destination) (span-some destination)
