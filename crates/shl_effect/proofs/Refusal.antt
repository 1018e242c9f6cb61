-- SHL is not refused once it is run, and writes registers only.
use mathlib.Core.Path.{◌≡◌, refl}
use mathlib.Core.List.{List, []}
use Prim.Native.Nat.{ℕ}
use Rattle.refusal.specs.declared.Detail.TheVariants as detail
use Rattle.cells.specs.Buffer.{Buffer}
use Rattle.cells.proofs.RefusalLaws.{WritesOnlyWhenDone, done-writes}
use Rattle.plan.specs.Plan.{Plan}
use Rattle.shl_effect.specs.Shl.{shl_effect}

pub shl-writes : (p : Plan) (lanes : List ℕ) (b : Buffer) → WritesOnlyWhenDone (shl_effect p lanes b)
unfolding shl_effect
shl-writes p lanes b = done-writes _ refl

pub shl-spares-memory : (p : Plan) (lanes : List ℕ) (b : Buffer) → (shl_effect p lanes b).memory ≡ []
unfolding shl_effect
shl-spares-memory p lanes b = refl

pub shl-number : (p : Plan) (lanes : List ℕ) (b : Buffer) → (shl_effect p lanes b).number ≡ 0
unfolding shl_effect
shl-number p lanes b = refl

pub shl-detail : (p : Plan) (lanes : List ℕ) (b : Buffer) → (shl_effect p lanes b).detail ≡ detail.None
unfolding shl_effect
shl-detail p lanes b = refl
