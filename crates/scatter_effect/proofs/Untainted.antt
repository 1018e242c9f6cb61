-- SVM SCATTER4_SCALED over register files with equal marks and equal untainted bytes: alike effects. Once no lane's address is doubtful,
-- all addresses are the same, and so are 11, 12 and the places written.
use mathlib.Core.Path.{◌≡◌, refl, ap}
use mathlib.Core.Bool.{Bool, false}
use mathlib.Core.List.{List}
use Prim.Native.Nat.{ℕ, ◌-◌}
use Rattle.cells.specs.Buffer.{Buffer}
use Rattle.cells.specs.Over.{some}
use Rattle.cells.proofs.Related.{none, each-alike, each-where}
use Rattle.cells.proofs.Untainted.{SameUntainted, Agreeing, AlikeEffects, AlikeWrites, copy-alike, unless-alike, found_alike, some_same}
use Rattle.cells.proofs.FirstLaws.{pairs-where}
use Rattle.plan.specs.Plan.{Plan}
use Rattle.staging.specs.Sources.{either_tainted}
use Rattle.staging.proofs.Untainted.{both-same, either_same}
use Rattle.scatter_effect.specs.Scatter.{Window, channels_on, target_address, target, source_byte, misaligned, outside, scatter_pair, first_offending, scatter_effect}

module _ (b c : Buffer) (r : Agreeing b c) (p : Plan) where
  target-same : (k lane : ℕ) → either_tainted b.taint p.left p.right lane ≡ false → target b.bytes p k lane ≡ target c.bytes p k lane
  unfolding target
  target-same k lane h = both-same b c r (target_address k) p.left p.right lane h

  pair-alike : (w : Window) (k lane : ℕ) → either_tainted b.taint p.left p.right lane ≡ false → AlikeWrites (scatter_pair w b p k lane) (scatter_pair w c p k lane)
  unfolding scatter_pair
  pair-alike w k lane h = copy-alike b c r (source_byte p k lane) _ _ 4 (ap (λ a. a - w.base) (target-same k lane h))

  -- the same pair offends first
  offending-same : (fails : ℕ → Bool) (lanes : List ℕ) → some (λ i. either_tainted b.taint p.left p.right i) lanes ≡ false → first_offending fails p lanes b.bytes ≡ first_offending fails p lanes c.bytes
  unfolding first_offending
  offending-same fails lanes sure =
      pairs-where (λ i. either_tainted b.taint p.left p.right i) (λ k i. fails (target b.bytes p k i)) (λ k i. fails (target c.bytes p k i)) (channels_on p) lanes sure (λ k i e. ap fails (target-same k i e))

  pub scatter-alike : (w : Window) (lanes : List ℕ) → AlikeEffects (scatter_effect w p lanes b) (scatter_effect w p lanes c)
  unfolding scatter_effect
  scatter-alike w lanes =
      unless-alike _ _ 10 _ _ _ _ (some_same _ _ lanes (λ i. either_same b c r p.left p.right i)) refl (λ sure.
      found_alike 11 _ _ _ _ (offending-same misaligned lanes sure) (λ _.
      found_alike 12 _ _ _ _ (offending-same (outside w) lanes sure) (λ _.
      record {
        number = refl;
        detail = refl;
        registers = none;
        memory = each-alike SameUntainted _ _ (channels_on p) (λ k. each-where SameUntainted _ _ _ lanes sure (λ i e. pair-alike w k i e));
      })))
