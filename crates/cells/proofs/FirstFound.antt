-- What the search for the first pair finds: a pair of a channel and a lane that are on, that has what is sought, where no such pair before it has.
use Prim.Native.Nat.{ℕ, zero, suc, ◌+◌, ◌≤◌, ◌<◌}
use mathlib.Core.Path.{◌≡◌, refl, sym, ◌∙◌}
use mathlib.Core.Bool.{Bool, true, false, cond, true≢false}
use mathlib.Core.Logic.{◌⊎◌, inl, inr, ⊎_elim}
use mathlib.Core.List.{◌∷◌}
use native.Mathlib.Omega.{arith}
use lib.Dec.{ltb}
use borrow.Author.Tests.{ltb-true, ltb-false}
use Rattle.refusal.specs.declared.Detail.{Detail}
use Rattle.refusal.specs.declared.Detail.TheVariants as detail
use Rattle.cells.specs.Over.{among_from, among, first_lane, first_pair}

-- what holds at k and past it holds from k on
from-here : (P : ℕ → Type 0) (k : ℕ) → P k → ((j : ℕ) → suc k ≤ j → P j) → (j : ℕ) → k ≤ j → P j
from-here P k here past j h = told (ltb k j) refl
  where
    told : (t : Bool) → ltb k j ≡ t → P j
    told true e = past j (omega (arith, ltb-true k j e))
    told false e = let same : k ≡ j = omega (arith, ltb-false k j e, h) in rw (← same) here

-- ---- the lanes of a channel

module _ (p q : ℕ → Bool) (c : ℕ) (later : Detail) where
  record FoundLane (k n : ℕ) (d : Detail) : Type 0 where
    lane : ℕ
    low : k ≤ lane
    high : lane < k + n
    on : q lane ≡ true
    has : p lane ≡ true
    is : d ≡ detail.Pair c lane
    before : (j : ℕ) → k ≤ j → j < lane → q j ≡ true → p j ≡ false

  record NoLane (k n : ℕ) (d : Detail) : Type 0 where
    is : d ≡ later
    none : (j : ℕ) → k ≤ j → j < k + n → q j ≡ true → p j ≡ false

  further : (k n : ℕ) (d : Detail) → (q k ≡ true → p k ≡ false) → FoundLane (suc k) n d ⊎ NoLane (suc k) n d → FoundLane k (suc n) d ⊎ NoLane k (suc n) d
  further k n d miss =
      ⊎_elim
      (λ f. inl (record {
        lane = f.lane;
        low = omega (arith, f.low);
        high = omega (arith, f.high);
        on = f.on;
        has = f.has;
        is = f.is;
        before = from-here (λ (j : ℕ). j < f.lane → q j ≡ true → p j ≡ false) k (λ _. miss) (λ j h. f.before j h);
      }))
      (λ z. inr (record { is = z.is; none = from-here (λ (j : ℕ). j < k + suc n → q j ≡ true → p j ≡ false) k (λ _. miss) (λ j h l. z.none j h (omega (arith, l))) }))

  lanes-told : (n k : ℕ) → FoundLane k n (first_lane p c (among_from q k n) later) ⊎ NoLane k n (first_lane p c (among_from q k n) later)
  unfolding first_lane among_from
  lanes-told zero k = inr (record { is = refl; none = λ j h l. absurd (omega (arith, h, l)) })
  lanes-told (suc n) k = told (q k) refl (p k) refl (lanes-told n (suc k))
    where
      told : (t : Bool) → q k ≡ t → (u : Bool) → p k ≡ u → FoundLane (suc k) n (first_lane p c (among_from q (suc k) n) later) ⊎ NoLane (suc k) n (first_lane p c (among_from q (suc k) n) later)
          → FoundLane k (suc n) (first_lane p c (cond t (k ∷ among_from q (suc k) n) (among_from q (suc k) n)) later) ⊎ NoLane k (suc n) (first_lane p c (cond t (k ∷ among_from q (suc k) n) (among_from q (suc k) n)) later)
      told true on true has rest =
          inl (record { lane = k; low = omega arith; high = omega arith; on = on; has = has; is = rw has; before = λ j h l. absurd (omega (arith, h, l)) })
      told true on false has rest = rw has (further k n _ (λ _. has) rest)
      told false off u has rest = further k n _ (λ on. absurd (true≢false (sym on ∙ off))) rest

-- ---- the channels

-- channels below m and lanes below n that are on
module _ (p : ℕ → ℕ → Bool) (u q : ℕ → Bool) (n : ℕ) where
  -- a pair that has it, where no pair before it has, of channels from k on
  pub record FoundPair (k m : ℕ) (d : Detail) : Type 0 where
    pub channel : ℕ
    pub lane : ℕ
    pub is : d ≡ detail.Pair channel lane
    pub low : k ≤ channel
    pub high : channel < k + m
    pub channel-on : u channel ≡ true
    pub lane_below : lane < n
    pub lane-on : q lane ≡ true
    pub has : p channel lane ≡ true
    pub channels-before : (e j : ℕ) → k ≤ e → e < channel → u e ≡ true → j < n → q j ≡ true → p e j ≡ false
    pub lanes-before : (j : ℕ) → j < lane → q j ≡ true → p channel j ≡ false

  pub record NoPair (k m : ℕ) (d : Detail) : Type 0 where
    pub is : d ≡ detail.None
    pub none : (e j : ℕ) → k ≤ e → e < k + m → u e ≡ true → j < n → q j ≡ true → p e j ≡ false

  past : (k m : ℕ) (d : Detail) → (u k ≡ true → (j : ℕ) → j < n → q j ≡ true → p k j ≡ false) → FoundPair (suc k) m d ⊎ NoPair (suc k) m d → FoundPair k (suc m) d ⊎ NoPair k (suc m) d
  past k m d miss =
      ⊎_elim
      (λ f. inl (record {
        channel = f.channel;
        lane = f.lane;
        is = f.is;
        low = omega (arith, f.low);
        high = omega (arith, f.high);
        channel-on = f.channel-on;
        lane_below = f.lane_below;
        lane-on = f.lane-on;
        has = f.has;
        channels-before = λ e j h. from-here (λ (x : ℕ). x < f.channel → u x ≡ true → j < n → q j ≡ true → p x j ≡ false) k (λ _ on. miss on j) (λ x g. f.channels-before x j g) e h;
        lanes-before = f.lanes-before;
      }))
      (λ z. inr (record {
        is = z.is;
        none = λ e j h. from-here (λ (x : ℕ). x < k + suc m → u x ≡ true → j < n → q j ≡ true → p x j ≡ false) k (λ _ on. miss on j) (λ x g l. z.none x j g (omega (arith, l))) e h;
      }))

  pairs-told : (m k : ℕ) → FoundPair k m (first_pair p (among_from u k m) (among q n)) ⊎ NoPair k m (first_pair p (among_from u k m) (among q n))
  unfolding first_pair among_from among
  pairs-told zero k = inr (record { is = refl; none = λ e j h l. absurd (omega (arith, h, l)) })
  pairs-told (suc m) k = told (u k) refl (pairs-told m (suc k))
    where
      told : (t : Bool) → u k ≡ t → FoundPair (suc k) m (first_pair p (among_from u (suc k) m) (among_from q 0 n)) ⊎ NoPair (suc k) m (first_pair p (among_from u (suc k) m) (among_from q 0 n))
          → FoundPair k (suc m) (first_pair p (cond t (k ∷ among_from u (suc k) m) (among_from u (suc k) m)) (among_from q 0 n)) ⊎ NoPair k (suc m) (first_pair p (cond t (k ∷ among_from u (suc k) m) (among_from u (suc k) m)) (among_from q 0 n))
      told true on later =
          ⊎_elim
          (λ f. inl (record {
            channel = k;
            lane = f.lane;
            is = f.is;
            low = omega arith;
            high = omega arith;
            channel-on = on;
            lane_below = omega (arith, f.high);
            lane-on = f.on;
            has = f.has;
            channels-before = λ e j h l. absurd (omega (arith, h, l));
            lanes-before = λ j l. f.before j (omega arith) l;
          }))
          (λ z. rw z.is (past k m _ (λ _ j l. z.none j (omega arith) (omega (arith, l))) later))
          (lanes-told (p k) q k (first_pair p (among_from u (suc k) m) (among_from q 0 n)) n 0)
      told false off later = past k m _ (λ on. absurd (true≢false (sym on ∙ off))) later

  pub pairs-found : (m : ℕ) → FoundPair 0 m (first_pair p (among u m) (among q n)) ⊎ NoPair 0 m (first_pair p (among u m) (among q n))
  unfolding among
  pairs-found m = pairs-told m 0
