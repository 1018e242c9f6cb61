-- SHL of every plan, also of one that no check makes. A plan of `check` has integer elements of at most 4 bytes and at most 32 lanes, which
-- is what the guard asks: it passes (`sound-fits` in `proofs/SoundLaws.antt`; `planned-fits` of the crate step).
use Rattle.std.specs.Prelude.{ℕ, Bool, not, ◌&&◌, leb}
use Rattle.cells.specs.Buffer.{Buffer}
use Rattle.refusal.specs.declared.Detail.TheVariants as detail
use Rattle.cells.specs.Effect.{Effect, unless}
use Rattle.exec_byte.specs.Exec.{exec_size}
use Rattle.plan.specs.Plan.{Plan}
use Rattle.staging.specs.Lanes.{lanes_on}
use Rattle.staging.specs.Mirror.Room.{elements_fit}
use Rattle.shl_effect.specs.Shl.{shl_effect}

unfoldable pub shl_fits : Plan → Bool
shl_fits p =
    elements_fit 4 p.left (exec_size p.control.exec)
    && elements_fit 4 p.right (exec_size p.control.exec)
    && leb p.payload.size 4

unfoldable pub shl_guarded : ℕ → Plan → Buffer → Effect
shl_guarded mask p registers = unless (not (shl_fits p)) 7 detail.None (shl_effect p (lanes_on mask p) registers)
