-- Laws of the search for the first pair: it finds one exactly if there is one, and the turns of two nested loops over channels and lanes.
use Prim.Native.Nat.{ℕ, zero, suc, ◌+◌, ◌-◌, ◌≤◌, ◌<◌}
use mathlib.Core.Path.{◌≡◌, refl, ap, ◌∙◌}
use mathlib.Core.Bool.{Bool, true, false, cond, ◌&&◌, ◌||◌}
use mathlib.Core.List.{List, [], ◌∷◌}
use native.Mathlib.Omega.{arith}
use Rattle.refusal.specs.declared.Detail.{Detail}
use Rattle.refusal.specs.declared.Detail.TheVariants as detail
use Rattle.refusal.specs.Details.{is_some}
use Rattle.cells.specs.Over.{among_from, among, some, first_lane, first_pair}
use Rattle.cells.proofs.AmongLaws.{among-begun, among-on, among-off, among-over}
use Rattle.cells.proofs.Related.{or_left, or_right}

-- ---- whether there is one

lane-some : (p : ℕ → Bool) (c : ℕ) (is : List ℕ) (later : Detail) → is_some (first_lane p c is later) ≡ (some p is || is_some later)
unfolding first_lane some is_some
lane-some p c [] later = refl
lane-some p c (i ∷ is) later = told (p i) (lane-some p c is later)
  where
    told : (q : Bool) → is_some (first_lane p c is later) ≡ (some p is || is_some later) → is_some (cond q (detail.Pair c i) (first_lane p c is later)) ≡ (q || some p is || is_some later)
    told true e = refl
    told false e = e

pub found_some : (p : ℕ → ℕ → Bool) (cs is : List ℕ) → is_some (first_pair p cs is) ≡ some (λ c. some (p c) is) cs
unfolding first_pair some is_some
found_some p [] is = refl
found_some p (c ∷ cs) is = lane-some (p c) c is (first_pair p cs is) ∙ ap (λ (q : Bool). some (p c) is || q) (found_some p cs is)

-- ---- searches for the same

lanes-same : (p r : ℕ → Bool) (c : ℕ) (is : List ℕ) (a b : Detail) → ((i : ℕ) → p i ≡ r i) → a ≡ b → first_lane p c is a ≡ first_lane r c is b
unfolding first_lane
lanes-same p r c [] a b h e = e
lanes-same p r c (i ∷ is) a b h e = rw (h i, lanes-same p r c is a b h e)

pub pairs-same : (p r : ℕ → ℕ → Bool) (cs is : List ℕ) → ((c i : ℕ) → p c i ≡ r c i) → first_pair p cs is ≡ first_pair r cs is
unfolding first_pair
pairs-same p r [] is h = refl
pairs-same p r (c ∷ cs) is h = lanes-same (p c) (r c) c is _ _ (h c) (pairs-same p r cs is h)

-- where q holds of no lane, only the lanes at which it does not hold matter
module _ (q : ℕ → Bool) where
  lanes-where : (p r : ℕ → Bool) (c : ℕ) (is : List ℕ) (a b : Detail) → some q is ≡ false → ((i : ℕ) → q i ≡ false → p i ≡ r i) → a ≡ b → first_lane p c is a ≡ first_lane r c is b
  unfolding first_lane some
  lanes-where p r c [] a b none h e = e
  lanes-where p r c (i ∷ is) a b none h e = rw (h i (or_left (q i) (some q is) none), lanes-where p r c is a b (or_right (q i) (some q is) none) h e)

  pub pairs-where : (p r : ℕ → ℕ → Bool) (cs is : List ℕ) → some q is ≡ false → ((c i : ℕ) → q i ≡ false → p c i ≡ r c i) → first_pair p cs is ≡ first_pair r cs is
  unfolding first_pair
  pairs-where p r [] is none h = refl
  pairs-where p r (c ∷ cs) is none h = lanes-where (p c) (r c) c is _ _ none (h c) (pairs-where p r cs is none h)

-- over the lanes below n that are on
module _ (q : ℕ → Bool) where
  lanes-from : (p r : ℕ → Bool) (c n k : ℕ) (a b : Detail) → ((i : ℕ) → i < k + n → q i ≡ true → p i ≡ r i) → a ≡ b → first_lane p c (among_from q k n) a ≡ first_lane r c (among_from q k n) b
  unfolding first_lane among_from
  lanes-from p r c zero k a b h e = e
  lanes-from p r c (suc n) k a b h e = told (q k) refl (lanes-from p r c n (suc k) a b (λ i l. h i (omega (arith, l))) e)
    where
      told : (t : Bool) → q k ≡ t → first_lane p c (among_from q (suc k) n) a ≡ first_lane r c (among_from q (suc k) n) b
          → first_lane p c (cond t (k ∷ among_from q (suc k) n) (among_from q (suc k) n)) a ≡ first_lane r c (cond t (k ∷ among_from q (suc k) n) (among_from q (suc k) n)) b
      told true on rest = rw (h k (omega arith) on, rest)
      told false off rest = rest

  pub pairs-alike : (p r : ℕ → ℕ → Bool) (cs : List ℕ) (n : ℕ) → ((c i : ℕ) → i < n → p c i ≡ r c i) → first_pair p cs (among q n) ≡ first_pair r cs (among q n)
  unfolding first_pair among
  pairs-alike p r [] n h = refl
  pairs-alike p r (c ∷ cs) n h = lanes-from (p c) (r c) c n 0 _ _ (λ i l _. h c i (omega (arith, l))) (pairs-alike p r cs n h)

-- ---- a loop over the lanes of a channel, i from 0 up to n, whose invariant is first_lane p c (among_from q i (n - i)) later ≡ whole
module _ (p q : ℕ → Bool) (c : ℕ) (later : Detail) where
  lane-step : (i n : ℕ) → i < n → first_lane p c (among_from q i (n - i)) later ≡ cond (q i && p i) (detail.Pair c i) (first_lane p c (among_from q (i + 1) (n - (i + 1))) later)
  unfolding first_lane
  lane-step i n h = asked (q i) refl
    where
      asked : (t : Bool) → q i ≡ t → first_lane p c (among_from q i (n - i)) later ≡ cond (q i && p i) (detail.Pair c i) (first_lane p c (among_from q (i + 1) (n - (i + 1))) later)
      asked true on = rw (among-on q i n h on, on)
      asked false off = rw (among-off q i n h off, off)

  -- lane i is off, or has not what is sought
  pub lane-turn : (i n : ℕ) (whole : Detail) → i < n → (q i && p i) ≡ false → first_lane p c (among_from q i (n - i)) later ≡ whole → first_lane p c (among_from q (i + 1) (n - (i + 1))) later ≡ whole
  lane-turn i n whole h miss e = rw (lane-step i n h, miss) at e

  -- lane i is on and has it
  pub lane-hit : (i n : ℕ) (whole : Detail) → i < n → (q i && p i) ≡ true → first_lane p c (among_from q i (n - i)) later ≡ whole → detail.Pair c i ≡ whole
  lane-hit i n whole h hit e = rw (lane-step i n h, hit) at e

  -- no lane is left: what the channels after this one have
  pub lane_over : (i n : ℕ) (whole : Detail) → n ≤ i → first_lane p c (among_from q i (n - i)) later ≡ whole → later ≡ whole
  unfolding first_lane
  lane_over i n whole h e = rw (among-over q i n h) at e

-- ---- a loop over the channels, c from 0 up to n, whose invariant is first_pair p (among_from u c (n - c)) lanes ≡ whole
module _ (p : ℕ → ℕ → Bool) (u : ℕ → Bool) (lanes : List ℕ) where
  pub pairs-begun : (n : ℕ) → first_pair p (among_from u 0 (n - 0)) lanes ≡ first_pair p (among u n) lanes
  pairs-begun n = rw (among-begun u n)

  -- channel c is on: its lanes, and then the channels after it
  pub pairs-enter : (c n : ℕ) (whole : Detail) → c < n → u c ≡ true → first_pair p (among_from u c (n - c)) lanes ≡ whole → first_lane (p c) c lanes (first_pair p (among_from u (c + 1) (n - (c + 1))) lanes) ≡ whole
  unfolding first_pair
  pairs-enter c n whole h on e = rw (among-on u c n h on) at e

  pub pairs-off : (c n : ℕ) (whole : Detail) → c < n → u c ≡ false → first_pair p (among_from u c (n - c)) lanes ≡ whole → first_pair p (among_from u (c + 1) (n - (c + 1))) lanes ≡ whole
  pairs-off c n whole h off e = rw (among-off u c n h off) at e

  pub pairs-over : (c n : ℕ) (whole : Detail) → n ≤ c → first_pair p (among_from u c (n - c)) lanes ≡ whole → detail.None ≡ whole
  unfolding first_pair
  pairs-over c n whole h e = rw (among-over u c n h) at e
