-- Texts written one after another are one text written, whatever the buffer's length; where there is room, all of it stands there.
use mathlib.Core.Path.{◌≡◌, refl, sym, ap, ◌∙◌}
use mathlib.Core.List.{List, [], ◌∷◌, ◌++◌}
use mathlib.Core.Bool.{Bool, true, false}
use Prim.Native.Nat.{ℕ, zero, suc, ◌+◌, ◌-◌, ◌≤◌, ◌<◌}
use Rattle.std.specs.Prelude.{min}
use Rattle.std.proofs.lemmas.List.{length-take, take_min}
use borrow.Rule.Slice.PartMut.{put_mid}
use native.Mathlib.Omega.{arith}
use lib.Dec.{ltb}
use lib.ListN.{length, set, take, drop, length-append, length-set}
use lib.Seq.{set_out, take_at, length-take-le}
use borrow.Author.Tests.{ltb-true, ltb-false, le-ltb}
use Rattle.hex_text.specs.Storing.{placed}
use Rattle.hex_text.proofs.StoringLaws.{copied, length-placed, placed-is}
use Rattle.format_writers.specs.Writing.{within, Written, wrote, written}
use Rattle.formats.proofs.Tests.{cond-then}

-- ---- places

pub within-le : (room at : ℕ) → within room at ≤ room
unfolding within
within-le room at = cond-then (λ (n : ℕ). n ≤ room) (ltb at room) (λ h. omega (arith, ltb-true at room h)) (λ _. omega arith)

pub within-inside : (room at : ℕ) → at ≤ room → within room at ≡ at
unfolding within
within-inside room at h = cond-then (λ (n : ℕ). n ≡ at) (ltb at room) (λ _. refl) (λ e. omega (arith, ltb-false at room e, h))

within-outside : (room at : ℕ) → room ≤ at → within room at ≡ room
unfolding within
within-outside room at h = rw (le-ltb at room h)

-- a place past the end is the end
pub within-then : (room at n : ℕ) → within room (within room at + n) ≡ within room (at + n)
within-then room at n = told (ltb at room) refl
  where
    told : (b : Bool) → ltb at room ≡ b → within room (within room at + n) ≡ within room (at + n)
    told true e = ap (λ (k : ℕ). within room (k + n)) (within-inside room at (omega (arith, ltb-true at room e)))
    told false e =
        let h = ltb-false at room e in
        ap (λ (k : ℕ). within room (k + n)) (within-outside room at h) ∙ within-outside room (room + n) (omega arith) ∙ sym (within-outside room (at + n) (omega (arith, h)))

-- ---- what is placed

pub placed-append : (l : List ℕ) (at : ℕ) (t u : List ℕ) → placed l at (t ++ u) ≡ placed (placed l at t) (at + length t) u
unfolding placed
placed-append l at [] u = ap (λ (n : ℕ). placed l n u) (omega arith)
placed-append l at (c ∷ t) u = placed-append (set l at c) (suc at) t u ∙ ap (λ (n : ℕ). placed (placed (set l at c) (suc at) t) n u) (omega arith)

placed-outside : (l : List ℕ) (at : ℕ) (t : List ℕ) → length l ≤ at → placed l at t ≡ l
unfolding placed
placed-outside l at [] h = refl
placed-outside l at (c ∷ t) h = ap (λ (m : List ℕ). placed m (suc at) t) (set_out l at c h) ∙ placed-outside l (suc at) t (omega arith)

placed-within : (l : List ℕ) (at : ℕ) (t : List ℕ) → placed l (within (length l) at) t ≡ placed l at t
placed-within l at t = told (ltb at (length l)) refl
  where
    told : (b : Bool) → ltb at (length l) ≡ b → placed l (within (length l) at) t ≡ placed l at t
    told true e = ap (λ (k : ℕ). placed l k t) (within-inside (length l) at (omega (arith, ltb-true at (length l) e)))
    told false e =
        let h = ltb-false at (length l) e in
        placed-outside l (within (length l) at) t (omega (arith, within-outside (length l) at h)) ∙ sym (placed-outside l at t h)

-- ---- what is written

written-end : (l : List ℕ) (at : ℕ) (t : List ℕ) → (written l at t).end ≡ within (length l) (at + length t)
unfolding written
written-end l at t = refl

written-buffer : (l : List ℕ) (at : ℕ) (t : List ℕ) → (written l at t).buffer ≡ placed l at t
unfolding written
written-buffer l at t = refl

both-are : (a b : Written) → a.end ≡ b.end → a.buffer ≡ b.buffer → a ≡ b
both-are a b p q = λ i. record { end = p i; buffer = q i }

-- to write from past the end is to write from the end
pub written-within : (l : List ℕ) (at : ℕ) (t : List ℕ) → written l (within (length l) at) t ≡ written l at t
unfolding written
written-within l at t = both-are (written l (within (length l) at) t) (written l at t) (within-then (length l) at (length t)) (placed-within l at t)

-- what was written leaves the buffer's length, and ends in it
pub wrote-length : (l : List ℕ) (at : ℕ) (t : List ℕ) (e : ℕ) (m : List ℕ) → wrote e m ≡ written l at t → length m ≡ length l
wrote-length l at t e m p = ap (λ (w : Written). length w.buffer) p ∙ ap length (written-buffer l at t) ∙ length-placed l at t

pub wrote-inside : (l : List ℕ) (at : ℕ) (t : List ℕ) (e : ℕ) (m : List ℕ) → wrote e m ≡ written l at t → e ≤ length m
wrote-inside l at t e m p =
    let q : e ≡ within (length l) (at + length t) = ap (λ (w : Written). w.end) p ∙ written-end l at t in
    omega (arith, q, within-le (length l) (at + length t), wrote-length l at t e m p)

pub wrote_then : (l : List ℕ) (at : ℕ) (t u : List ℕ) (e : ℕ) (m : List ℕ) (d : ℕ) (n : List ℕ) → wrote e m ≡ written l at t → wrote d n ≡ written m e u → wrote d n ≡ written l at (t ++ u)
wrote_then l at t u e m d n p q =
    let x : e ≡ within (length l) (at + length t) = ap (λ (w : Written). w.end) p ∙ written-end l at t in
    let y : m ≡ placed l at t = ap (λ (w : Written). w.buffer) p ∙ written-buffer l at t in
    let k : length m ≡ length l = wrote-length l at t e m p in
    let z : written m e u ≡ written m (at + length t) u = ap (λ (i : ℕ). written m i u) (x ∙ ap (λ (r : ℕ). within r (at + length t)) (sym k)) ∙ written-within m (at + length t) u in
    let a : at + length t + length u ≡ at + length (t ++ u) = omega (arith, length-append t u) in
    q ∙ z ∙ both-are (written m (at + length t) u) (written l at (t ++ u))
    (written-end m (at + length t) u ∙ ap (λ (r : ℕ). within r (at + length t + length u)) k ∙ ap (within (length l)) a ∙ sym (written-end l at (t ++ u)))
    (written-buffer m (at + length t) u ∙ ap (λ (b : List ℕ). placed b (at + length t) u) y ∙ sym (placed-append l at t u) ∙ sym (written-buffer l at (t ++ u)))

-- nothing is written
pub wrote_none : (l t : List ℕ) (at : ℕ) → at ≤ length l → t ≡ [] → wrote at l ≡ written l at t
unfolding written placed
wrote_none l t at h e = rw e (both-are (wrote at l) (written l at []) (sym (ap (within (length l)) (zeros at) ∙ within-inside (length l) at h)) refl)
  where
    zeros : (n : ℕ) → n + 0 ≡ n
    zeros n = omega arith

-- one character: it stands at its place, if the buffer goes so far
pub wrote_one : (l : List ℕ) (at c : ℕ) → at < length l → wrote (at + 1) (set l at c) ≡ written l at (c ∷ [])
unfolding written placed
wrote_one l at c h = both-are (wrote (at + 1) (set l at c)) (written l at (c ∷ [])) (sym (within-inside (length l) (at + 1) (omega arith))) refl

pub wrote-lost : (l : List ℕ) (at c : ℕ) → length l ≤ at → wrote (length l) l ≡ written l at (c ∷ [])
unfolding written placed
wrote-lost l at c h = both-are (wrote (length l) l) (written l at (c ∷ [])) (sym (within-outside (length l) (at + 1) (omega arith))) (sym (set_out l at c h))

-- ---- a text at once

-- what would stand past the end is not placed
placed-cut : (l : List ℕ) (at : ℕ) (t : List ℕ) (n : ℕ) → length l ≤ at + n → placed l at (take n t) ≡ placed l at t
unfolding placed
placed-cut l at [] zero h = refl
placed-cut l at [] (suc n) h = refl
placed-cut l at (c ∷ t) zero h = sym (placed-outside l at (c ∷ t) (omega arith))
placed-cut l at (c ∷ t) (suc n) h = placed-cut (set l at c) (suc at) t n (rw (length-set l at c) (omega arith))

within-min : (room at : ℕ) → within room at ≡ min at room
within-min room at = told (ltb at room) refl
  where
    told : (b : Bool) → ltb at room ≡ b → within room at ≡ min at room
    told true e = let h = ltb-true at room e in within-inside room at (omega arith) ∙ omega arith
    told false e = let h = ltb-false at room e in within-outside room at h ∙ omega arith

pub text_placed : (l t : List ℕ) (at a n k : ℕ) → a ≡ min at (length l) → n ≡ min (length l - a) (length t) → k ≡ n → wrote (a + n) (put_mid a k l (take n t)) ≡ written l at t
text_placed l t at a n k e f g =
    let c : length (take n t) ≡ n = length-take n t ∙ omega (arith, f) in
    let w : a ≡ within (length l) at = e ∙ sym (within-min (length l) at) in
    let all : take n t ≡ take (length l - a) t = ap (λ (m : ℕ). take m t) f ∙ take_min (length l - a) t in
    let end : a + n ≡ min (at + length t) (length l) = omega (arith, e, f) in
    both-are (wrote (a + n) (put_mid a k l (take n t))) (written l at t)
    (end ∙ sym (within-min (length l) (at + length t)) ∙ sym (written-end l at t))
    (copied l (take n t) a k (g ∙ sym c) (omega (arith, c, e, f)) ∙ ap (placed l a) all ∙ placed-cut l a t (length l - a) (omega (arith, e)) ∙ ap (λ (m : ℕ). placed l m t) w ∙ placed-within l at t ∙ sym (written-buffer l at t))

-- ---- where there is room

pub wrote-fits : (l : List ℕ) (at : ℕ) (t : List ℕ) (e : ℕ) (m : List ℕ) → at + length t ≤ length l → wrote e m ≡ written l at t → (e ≡ at + length t) × (m ≡ take at l ++ t ++ drop (at + length t) l)
wrote-fits l at t e m h p = (
  ap (λ (w : Written). w.end) p ∙ written-end l at t ∙ within-inside (length l) (at + length t) h,
  ap (λ (w : Written). w.buffer) p ∙ written-buffer l at t ∙ placed-is l at t h,
)

-- a text written from the start is what stands before its end
pub wrote-text : (l t : List ℕ) (e : ℕ) (m : List ℕ) → length t ≤ length l → wrote e m ≡ written l 0 t → (e ≡ length t) × (take e m ≡ t)
wrote-text l t e m h p =
    let r = wrote-fits l 0 t e m (omega arith) p in
    let x : e ≡ length t = r.0 ∙ omega arith in
    (x, ap (take e) r.1 ∙ take_at t (drop (0 + length t) l) e (sym x))

-- what stands before the end: what stood before the place, and the text
pub room-takes : (l t : List ℕ) (at e : ℕ) (m : List ℕ) → at + length t ≤ length l → wrote e m ≡ written l at t → (take e m ≡ take at l ++ t) × (e ≤ length m)
room-takes l t at e m h p =
    let w = wrote-fits l at t e m h p in
    let k : length (take at l) ≡ at = length-take-le at l (omega (arith, h)) in
    let n : length (take at l ++ t) ≡ e = length-append (take at l) t ∙ omega (arith, k, w.0) in
    let x : m ≡ (take at l ++ t) ++ drop (at + length t) l = w.1 in
    (ap (take e) x ∙ take_at (take at l ++ t) (drop (at + length t) l) e n, rw x (omega (arith, n, length-append (take at l ++ t) (drop (at + length t) l))))
