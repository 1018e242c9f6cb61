-- GATHER_SCALED is not refused once it is run, and writes registers only.
use mathlib.Core.Path.{◌≡◌, refl}
use mathlib.Core.List.{List, []}
use Prim.Native.Nat.{ℕ}
use Rattle.refusal.specs.declared.Detail.TheVariants as detail
use Rattle.cells.specs.Buffer.{Buffer}
use Rattle.cells.proofs.RefusalLaws.{WritesOnlyWhenDone, done-writes}
use Rattle.plan.specs.Plan.{Plan}
use Rattle.gather_effect.specs.Gather.{gather_effect}

pub gather-writes : (p : Plan) (lanes : List ℕ) (b f : Buffer) → WritesOnlyWhenDone (gather_effect p lanes b f)
unfolding gather_effect
gather-writes p lanes b f = done-writes _ refl

pub gather-spares-memory : (p : Plan) (lanes : List ℕ) (b f : Buffer) → (gather_effect p lanes b f).memory ≡ []
unfolding gather_effect
gather-spares-memory p lanes b f = refl

pub gather-number : (p : Plan) (lanes : List ℕ) (b f : Buffer) → (gather_effect p lanes b f).number ≡ 0
unfolding gather_effect
gather-number p lanes b f = refl

pub gather-detail : (p : Plan) (lanes : List ℕ) (b surfaces : Buffer) → (gather_effect p lanes b surfaces).detail ≡ detail.None
unfolding gather_effect
gather-detail p lanes b surfaces = refl
