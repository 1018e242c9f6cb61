-- The positions of the lanes: one more, each of them, and the byte that it is.
use mathlib.Core.Path.{◌≡◌, refl, ◌∙◌}
use mathlib.Core.List.{List}
use Prim.Native.Nat.{ℕ, zero, suc, ◌+◌, ◌*◌, ◌≤◌, ◌<◌}
use native.Mathlib.Omega.{arith}
use native.Mathlib.Numerals.{add-one}
use native.Mathlib.Nat.{not-suc-le-zero}
use lib.ListN.{length, get_or, set, length-set, replicate, length-replicate}
use lib.Seq.{get_or-set_same, get_or-set_other}
use borrow.Author.Count.{below_more}
use Rattle.regions.specs.Positions.{filled, lane_positions, element_byte}

pub filled_next : (l : List ℕ) (f : ℕ → ℕ) (n value : ℕ) (m : List ℕ) → value ≡ f n → m ≡ filled l f n → set m n value ≡ filled l f (n + 1)
unfolding filled
filled_next l f n value m e h = rw (add-one n, e, h)

length-filled : (l : List ℕ) (f : ℕ → ℕ) (n : ℕ) → length (filled l f n) ≡ length l
unfolding filled
length-filled l f zero = refl
length-filled l f (suc n) = length-set (filled l f n) n (f n) ∙ length-filled l f n

filled-each : (l : List ℕ) (f : ℕ → ℕ) (n : ℕ) → n ≤ length l → (k : ℕ) → k < n → get_or (filled l f n) k 0 ≡ f k
unfolding filled
filled-each l f zero h k g = absurd (not-suc-le-zero g)
filled-each l f (suc n) h k g =
    let m : n < length (filled l f n) = rw (length-filled l f n) h in
    below_more (λ (j : ℕ). get_or (set (filled l f n) n (f n)) j 0 ≡ f j) n
    (λ j p. get_or-set_other (filled l f n) n j (f n) 0 (λ e. absurd (omega (arith, e, p))) ∙ filled-each l f n (omega arith) j p)
    (get_or-set_same (filled l f n) n (f n) 0 m) k (rw (add-one n) g)

-- each is its lane's
pub position-of : (f : ℕ → ℕ) (k : ℕ) → k < 32 → get_or (lane_positions f) k 0 ≡ f k
unfolding lane_positions
position-of f k h = filled-each (replicate 32 0) f 32 (rw (length-replicate {A = ℕ} 32 0) (omega arith)) k h

pub byte_of : (start size : ℕ) (element : ℕ → ℕ) (k : ℕ) → element_byte start size element k ≡ start + element k * size
unfolding element_byte
byte_of start size element k = refl
