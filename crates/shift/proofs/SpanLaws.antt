-- Laws of `span`: it is a power of two that divides 2^64, and small for at most four bytes.
use Rattle.std.proofs.Common.{◌≡◌, ℕ, zero, suc, ◌+◌, ◌-◌, ◌*◌, ◌%◌, ◌^◌, ◌<◌, ◌≤◌, refl, ap, ◌∙◌, mod-lt, mul_assoc, pow-suc, arith, lit<}
use native.Mathlib.Nat.{one-le-pow, pow-le-pow_right, pow-zero, mod-mod_of_dvd, dvd-mul_right}
use Rattle.shift.specs.Exact.{span}

pub power-some : (n : ℕ) → 0 < 2 ^ n
power-some n = one-le-pow n 2 (lit< tt)

power-sum : (m n : ℕ) → 2 ^ (m + n) ≡ 2 ^ m * 2 ^ n
power-sum m zero = let e : m + 0 ≡ m = omega arith in rw (e, pow-zero 2) (omega arith)
power-sum m (suc n) =
    let e : m + suc n ≡ suc (m + n) = omega arith in
    rw (e, pow-suc 2 (m + n), pow-suc 2 n, power-sum m n) (mul_assoc (2 ^ m) (2 ^ n) 2)

pub span-some : (size : ℕ) → 0 < span size
unfolding span
span-some size = power-some (8 * size)

-- 256 to the number of bytes
pub span-bytes : (size : ℕ) → span size ≡ 256 ^ size
unfolding span
span-bytes zero = refl
span-bytes (suc size) =
    let e : 8 * suc size ≡ 8 * size + 8 = omega arith in
    rw (e, power-sum (8 * size) 8, pow-suc 256 size) (ap (λ (n : ℕ). n * 256) (span-bytes size))

pub span_small : (size : ℕ) → size ≤ 4 → span size ≤ 2 ^ 32
unfolding span
span_small size h = let e : 8 * size ≤ 32 = omega arith in pow-le-pow_right {n = 2} (lit< tt) e

-- 1 moved up by so many bytes
pub span-moved : (size : ℕ) → size ≤ 4 → 1 * 2 ^ (8 * size) % 2 ^ 64 ≡ span size
unfolding span
span-moved size h = let e : 2 ^ (8 * size) ≤ 2 ^ 32 = span_small size h in omega arith

pub span-whole : (size : ℕ) → size ≤ 4 → 2 ^ 64 ≡ span size * 2 ^ (64 - 8 * size)
unfolding span
span-whole size h =
    let e : 64 ≡ 8 * size + (64 - 8 * size) = omega arith in
    ap (λ (n : ℕ). 2 ^ n) e ∙ power-sum (8 * size) (64 - 8 * size)

-- modulo 2^64 first
pub span-twice : (size n : ℕ) → size ≤ 4 → n % 2 ^ 64 % span size ≡ n % span size
span-twice size n h =
    rw (span-whole size h) (mod-mod_of_dvd (span size) n (dvd-mul_right (span size) (2 ^ (64 - 8 * size))))

-- what the code knows of a number that is a span
module _ (all size : ℕ) (told : all ≡ span size) where
  pub told-some : 0 < all
  told-some = rw told (span-some size)

  pub told-small : (x : ℕ) → size ≤ 4 → x % all < 2 ^ 32
  told-small x h = omega (arith, mod-lt x told-some, span_small size h)
