-- What the crates above may know of reading: forward, what was read is what stands there; backward, where a number's bytes stand, it is read.
use mathlib.Core.Path.{◌≡◌, refl, sym, ap, ◌∙◌}
use mathlib.Core.List.{List, ◌++◌, append_assoc}
use mathlib.Core.Bool.{Bool, true, false, cond}
use Prim.Native.Nat.{ℕ, suc, ◌+◌, ◌*◌, ◌-◌, ◌≤◌, ◌<◌}
use native.Mathlib.Omega.{arith}
use lib.ListN.{length, drop, length-append, length-drop}
use lib.Seq.{drop-drop, drop-append_seam}
use lib.Dec.{leb}
use borrow.Author.Tests.{leb-true, leb-false, le-leb, lt-leb}
use Rattle.little_endian.specs.LittleEndian.{number_at, bytes_of, Bytes}
use Rattle.little_endian.proofs.Laws.{length-bytes, number_more, number-there, bytes-there}
use Rattle.reader.specs.Reply.{Reply, refused, Read, got}
use Rattle.reader.specs.Reading.{whole_at, read_at}

-- from `at` to `next` the kernel has these bytes
pub record Passed (s : List ℕ) (at next : ℕ) (bs : List ℕ) : Type 0 where
  pub end : next ≡ at + length bs
  pub inside : next ≤ length s
  pub bytes : drop at s ≡ bs ++ drop next s

pub passed_then : {s : List ℕ} {at m n : ℕ} {bs ds : List ℕ} → Passed s at m bs → Passed s m n ds → Passed s at n (bs ++ ds)
passed_then {s} {at} {m} {n} {bs} {ds} p q =
    record {
      end = simp length-append (omega (arith, p.end, q.end));
      inside = q.inside;
      bytes = p.bytes ∙ ap (λ (l : List ℕ). bs ++ l) q.bytes ∙ sym (append_assoc bs ds (drop n s));
    }

-- what stands past the bytes
pub past : (s : List ℕ) (at : ℕ) (bs t : List ℕ) → drop at s ≡ bs ++ t → drop (at + length bs) s ≡ t
past s at bs t e = sym (drop-drop (length bs) at s) ∙ ap (λ (l : List ℕ). drop (length bs) l) e ∙ drop-append_seam bs t

-- ---- once over the number of bytes

pub whole_room : (n : ℕ) (s : List ℕ) (at : ℕ) → whole_at n s at ≡ true → at + n ≤ length s
unfolding whole_at
whole_room n s at w = leb-true (at + n) (length s) w

-- the test of the code, which forms no sum
pub room_whole : (n : ℕ) (s : List ℕ) (at : ℕ) → at ≤ length s → leb n (length s - at) ≡ whole_at n s at
unfolding whole_at
room_whole n s at h = told (leb (at + n) (length s)) refl
  where
    told : (b : Bool) → leb (at + n) (length s) ≡ b → leb n (length s - at) ≡ b
    told true e = le-leb n (length s - at) (omega (arith, leb-true (at + n) (length s) e))
    told false e = lt-leb n (length s - at) (omega (arith, leb-false (at + n) (length s) e))

pub past-whole : (n : ℕ) (s : List ℕ) (at : ℕ) → length s < at → whole_at n s at ≡ false
unfolding whole_at
past-whole n s at h = lt-leb (at + n) (length s) (omega arith)

number_passed : (n : ℕ) (s : List ℕ) (at : ℕ) → Bytes s → whole_at (suc n) s at ≡ true → Passed s at (at + suc n) (bytes_of (suc n) (number_at (suc n) s at))
number_passed n s at b w =
    let h : at + suc n ≤ length s = whole_room (suc n) s at w in
    record { end = rw (length-bytes (suc n) (number_at (suc n) s at)); inside = h; bytes = bytes-there n s at b h }

whole-there : (n : ℕ) (s : List ℕ) (at v : ℕ) (t : List ℕ) → drop at s ≡ bytes_of (suc n) v ++ t → whole_at (suc n) s at ≡ true
unfolding whole_at
whole-there n s at v t e =
    let l : length s - at ≡ length (bytes_of (suc n) v) + length t = sym (length-drop at s) ∙ ap length e ∙ length-append (bytes_of (suc n) v) t in
    le-leb (at + suc n) (length s) (omega (arith, l, length-bytes (suc n) v))

pub dword-words : (s : List ℕ) (at : ℕ) → number_at 4 s at ≡ number_at 2 s at + 65536 * number_at 2 s (at + 2)
dword-words s at = number_more 2 2 s at

-- a test and what follows it: what holds of both ways on, holds
pub cond-then : {X : Type 0} (P : X → Type 0) (b : Bool) {x y : X} → (b ≡ true → P x) → (b ≡ false → P y) → P (cond b x y)
cond-then P true p q = p refl
cond-then P false p q = q refl

-- ---- a number of one byte or more is read

-- forward: what holds of a refusal by 1, and of what was read, holds of the answer
pub read-then : (P : Reply (Read ℕ) → Type 0) (n : ℕ) (s : List ℕ) (at : ℕ) → Bytes s → P (refused 1) → ((v next : ℕ) → Passed s at next (bytes_of (suc n) v) → P (got v next)) → P (read_at (suc n) s at)
unfolding read_at
read-then P n s at b short on = cond-then P (whole_at (suc n) s at) (λ w. on _ _ (number_passed n s at b w)) (λ _. short)

-- backward: the read, and what stands past it
pub read-there : (n : ℕ) (s : List ℕ) (at v : ℕ) (t : List ℕ) → drop at s ≡ bytes_of (suc n) v ++ t → read_at (suc n) s at ≡ got v (at + suc n)
unfolding read_at
read-there n s at v t e = rw (whole-there n s at v t e, number-there n s at v t e)
