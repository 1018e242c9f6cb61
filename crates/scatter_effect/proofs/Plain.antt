-- SVM SCATTER4_SCALED over a register file with marks beside one with the same bytes and no marks: unless the first is refused by 10, the
-- same number and the same bytes, and no marks in the second.
use mathlib.Core.Path.{◌≡◌, refl, ap}
use mathlib.Core.Logic.{◌≢◌}
use mathlib.Core.Bool.{Bool}
use mathlib.Core.List.{List}
use Prim.Native.Nat.{ℕ, ◌-◌}
use Rattle.cells.specs.Buffer.{Buffer}
use Rattle.cells.proofs.Related.{none, each-alike, effects-found}
use Rattle.cells.proofs.FirstLaws.{pairs-same}
use Rattle.cells.proofs.Plain.{SameBytes, Plainly, PlainWrites, PlainEffects, some-nowhere, copy-plain, unless-marked}
use Rattle.plan.specs.Plan.{Plan}
use Rattle.staging.proofs.Plain.{both-plain, either-plain}
use Rattle.scatter_effect.specs.Scatter.{Window, channels_on, target_address, target, source_byte, misaligned, outside, scatter_pair, first_offending, scatter_effect}

module _ (b c : Buffer) (r : Plainly b c) (p : Plan) where
  target-plain : (k lane : ℕ) → target b.bytes p k lane ≡ target c.bytes p k lane
  unfolding target
  target-plain k lane = both-plain b c r (target_address k) p.left p.right lane

  pair-plain : (w : Window) (k lane : ℕ) → PlainWrites (scatter_pair w b p k lane) (scatter_pair w c p k lane)
  unfolding scatter_pair
  pair-plain w k lane = copy-plain b c r (source_byte p k lane) _ _ 4 (ap (λ a. a - w.base) (target-plain k lane))

  offending-plain : (fails : ℕ → Bool) (lanes : List ℕ) → first_offending fails p lanes b.bytes ≡ first_offending fails p lanes c.bytes
  unfolding first_offending
  offending-plain fails lanes = pairs-same (λ k i. fails (target b.bytes p k i)) (λ k i. fails (target c.bytes p k i)) (channels_on p) lanes (λ k i. ap fails (target-plain k i))

  pub scatter-plain : (w : Window) (lanes : List ℕ) → (scatter_effect w p lanes b).number ≢ 10 → PlainEffects (scatter_effect w p lanes b) (scatter_effect w p lanes c)
  unfolding scatter_effect
  scatter-plain w lanes sure =
      unless-marked _ _ 10 _ _ _ (some-nowhere _ lanes (λ i. either-plain b c r _ _ i)) sure (λ _.
      effects-found SameBytes 11 _ _ _ _ (offending-plain misaligned lanes) (λ _.
      effects-found SameBytes 12 _ _ _ _ (offending-plain (outside w) lanes) (λ _.
      record {
        number = refl;
        detail = refl;
        registers = none;
        memory = each-alike SameBytes _ _ (channels_on p) (λ k. each-alike SameBytes _ _ lanes (λ i. pair-plain w k i));
      })))
