-- Arithmetic on residues gives the same: a residue modulo any multiple of m, times p, is modulo m the exact number times p.
use Rattle.std.proofs.Common.{◌≡◌, ℕ, zero, suc, ◌+◌, ◌-◌, ◌*◌, ◌/◌, ◌%◌, ◌<◌, ◌≤◌, ℤ, pos, negsuc, ◌*ℤ◌, neg_ℤ, sym, refl, ap, ◌∙◌, mul-le-mul_right, mod-lt, mod-eq_of_lt, mul_assoc, suc-mul, mul_comm, add-mul, mul-pos, arith}
use native.Mathlib.Nat.{mul-add-mod_self_left, div-add-mod, mul-sub, lt_of_mul-lt-mul_left}
use Rattle.shift.specs.Exact.{modulo}

-- less than a multiple of m by q
under-multiple : (m k q : ℕ) → 0 < m → 0 < q → q ≤ m * k → (m * k - q) % m ≡ m - 1 - (q - 1) % m
under-multiple m k q some positive h =
    let small : (q - 1) % m < m = mod-lt (q - 1) some in
    let parts : m * ((q - 1) / m) + (q - 1) % m ≡ q - 1 = div-add-mod (q - 1) m in
    let less : m * ((q - 1) / m) < m * k = omega arith in
    let fewer : (q - 1) / m < k = lt_of_mul-lt-mul_left m less in
    split ((q - 1) / m) ((q - 1) % m) (k - 1 - (q - 1) / m) small (omega arith) (omega arith)
  where
    split : (a r j : ℕ) → r < m → q ≡ m * a + r + 1 → k ≡ a + 1 + j → (m * k - q) % m ≡ m - 1 - r
    split a r j low e f =
        let d : m * k - q ≡ m * j + (m - 1 - r) = rw (f, e) (omega arith) in
        rw d (mul-add-mod_self_left m j (m - 1 - r) ∙ mod-eq_of_lt (omega arith))

-- a multiple of m more is the same modulo m
same-modulo : (m a n r : ℕ) → n ≡ m * a + r → n % m ≡ r % m
same-modulo m a n r e = rw e (mul-add-mod_self_left m a r)

-- n, and what is left of it modulo a multiple of m, both times p
left-times : (m k p n : ℕ) → n * p ≡ m * (k * (n / (m * k)) * p) + n % (m * k) * p
left-times m k p n =
    ap (λ (x : ℕ). x * p) (sym (div-add-mod n (m * k))) ∙ spread (n / (m * k)) (n % (m * k))
  where
    spread : (q r : ℕ) → (m * k * q + r) * p ≡ m * (k * q * p) + r * p
    spread q r = rw (add-mul (m * k * q) r p, mul_assoc m k q, mul_assoc m (k * q) p)

-- -(n + 1)
times_below : (m k p n : ℕ) → 0 < m → 0 < k → 0 < p → (m * k - 1 - n % (m * k)) * p % m ≡ m - 1 - (suc n * p - 1) % m
times_below m k p n hm hk hp =
    over (n % (m * k)) (k * (n / (m * k)) * p) (mod-lt n (mul-pos hm hk)) (left-times m k p n)
  where
    over : (r a : ℕ) → r < m * k → n * p ≡ m * a + r * p → (m * k - 1 - r) * p % m ≡ m - 1 - (suc n * p - 1) % m
    over r a low e =
        let d : m * k - 1 - r ≡ m * k - suc r = omega arith in
        let f : (m * k - suc r) * p ≡ m * (k * p) - suc r * p =
        mul_comm (m * k - suc r) p ∙ mul-sub p (m * k) (suc r) ∙ rw (mul_comm p (m * k), mul_comm p (suc r), mul_assoc m k p) refl in
        let g : suc r * p ≤ m * (k * p) = rw (← mul_assoc m k p) (mul-le-mul_right p low) in
        let z : 0 < suc r * p = mul-pos (omega arith) hp in
        let s : (suc n * p - 1) % m ≡ (suc r * p - 1) % m =
        same-modulo m a (suc n * p - 1) (suc r * p - 1) (rw (suc-mul n p, suc-mul r p) (omega arith)) in
        rw (d, f, s) (under-multiple m (k * p) (suc r * p) hm z g)

below-zero : (n : ℕ) → 0 < n → neg_ℤ (pos n) ≡ negsuc (n - 1)
below-zero zero h = absurd (omega arith)
below-zero (suc n) h = ap negsuc (omega arith)

pub residue-times : (z : ℤ) (m k p : ℕ) → 0 < m → 0 < k → 0 < p → modulo z (m * k) * p % m ≡ modulo (z *ℤ pos p) m
unfolding modulo
residue-times (pos n) m k p hm hk hp =
    sym (same-modulo m (k * (n / (m * k)) * p) (n * p) (n % (m * k) * p) (left-times m k p n))
residue-times (negsuc n) m k p hm hk hp =
    let z : 0 < suc n * p = mul-pos (omega arith) hp in
    rw (below-zero (suc n * p) z) (times_below m k p n hm hk hp)
