-- Which pair a scatter's refusal names, said of all enabled pairs. Document 02, request 2: "11 and 12 now carry channel and lane of the first
-- offending pair, in document 01's order"; document 01: "c outer, i inner", "Only enabled pairs are tested".
use Rattle.std.specs.Prelude.{ℕ, ◌≡◌, Bool, true, false, List}
use Rattle.refusal.specs.declared.Detail.{Detail}
use Rattle.refusal.specs.declared.Detail.TheVariants as detail
use Rattle.plan.specs.Plan.{Plan}
use Rattle.scatter_effect.specs.Scatter.{Window, target, misaligned, outside}
use Rattle.scatter_effect.specs.Results.{EnabledPair, Later}

module _ (mask : ℕ) (p : Plan) (offends : ℕ → ℕ → Bool) where
  -- an enabled pair that offends, where no enabled pair before it does
  pub record IsFirst (c lane : ℕ) : Type 0 where
    pub enabled : EnabledPair mask p c lane
    pub offending : offends c lane ≡ true
    pub before : (d other : ℕ) → EnabledPair mask p d other → Later d other c lane → offends d other ≡ false

  -- what a search over all enabled pairs finds: the first that offends, or nothing where none does
  pub data Searched : Detail → Type 0 where
    found : {c lane : ℕ} → IsFirst c lane → Searched (detail.Pair c lane)
    clear : ((c lane : ℕ) → EnabledPair mask p c lane → offends c lane ≡ false) → Searched detail.None

-- what the numbers of a scatter that is performed tell
module _ (w : Window) (mask : ℕ) (p : Plan) (bytes : List ℕ) where
  pub data ScatterTells : ℕ → Detail → Type 0 where
    done : ScatterTells 0 detail.None
    doubtful : ScatterTells 10 detail.None
    misaligned_pair : {c lane : ℕ} → IsFirst mask p (λ d i. misaligned (target bytes p d i)) c lane → ScatterTells 11 (detail.Pair c lane)
    -- "11 over all; 12 over all": no enabled pair is misaligned
    outside_pair : {c lane : ℕ} → ((d i : ℕ) → EnabledPair mask p d i → misaligned (target bytes p d i) ≡ false) → IsFirst mask p (λ d i. outside w (target bytes p d i)) c lane → ScatterTells 12 (detail.Pair c lane)
