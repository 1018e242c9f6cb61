-- Copies of the same bytes, from two places, write the same.
use Rattle.std.proofs.Common.{◌≡◌, ℕ, zero, suc, ◌+◌, ◌-◌, ◌<◌, ◌∷◌, get_or, sym, ◌∙◌, ap₂, add-zero, arith}
use native.Mathlib.Nat.{sub-zero}
use Rattle.cells.specs.Buffer.{Buffer, is_tainted, mark_of}
use Rattle.cells.specs.Writes.{Write, copy_writes}
use Rattle.cells.proofs.WriteLaws.{copy-writes-next, copy-writes-over}
use Rattle.cells.proofs.CopyLaws.{Copied}

module _ (b c : Buffer) (from there to n : ℕ) (same : (k : ℕ) → k < n → Copied c there b from k) where
  first-same : (k : ℕ) → k < n → ◌≡◌ {A = Write} (record { at = to + k; value = get_or b.bytes (from + k) 0; mark = mark_of (is_tainted (get_or b.taint (from + k) 0)) }) (record { at = to + k; value = get_or c.bytes (there + k) 0; mark = mark_of (is_tainted (get_or c.taint (there + k) 0)) })
  first-same k h = λ i. record { at = to + k; value = (same k h).byte i; mark = mark_of ((same k h).taint i) }

  rest-same : (m k : ℕ) → k + m ≡ n → copy_writes b (from + k) (to + k) (n - k) ≡ copy_writes c (there + k) (to + k) (n - k)
  rest-same zero k e = copy-writes-over b from to k n (omega arith) ∙ sym (copy-writes-over c there to k n (omega arith))
  rest-same (suc m) k e =
      let h : k < n = omega arith in
      copy-writes-next b from to k n h
      ∙ (ap₂ ◌∷◌ (first-same k h) (rest-same m (k + 1) (omega arith)) ∙ sym (copy-writes-next c there to k n h))

  pub same_writes : copy_writes b from to n ≡ copy_writes c there to n
  same_writes = simp (add-zero, sub-zero) at (rest-same n 0 (omega arith))
