-- A gather of every plan, also of one that no check makes. A plan of `check` has offsets of 4 bytes and at most 32 lanes, which is
-- what the guard asks: it passes (`sound-fits` in `proofs/SoundLaws.antt`; `planned-fits` of the crate step).
use Rattle.std.specs.Prelude.{ℕ, Bool, not, ◌&&◌}
use Rattle.cells.specs.Buffer.{Buffer}
use Rattle.refusal.specs.declared.Detail.TheVariants as detail
use Rattle.cells.specs.Effect.{Effect, unless}
use Rattle.exec_byte.specs.Exec.{exec_size}
use Rattle.plan.specs.Plan.{Plan}
use Rattle.staging.specs.Lanes.{lanes_on}
use Rattle.staging.specs.Mirror.Room.{elements_fit}
use Rattle.gather_effect.specs.Gather.{gather_effect}

-- "Offset and Element_offset are UD": elements of at most four bytes
unfoldable pub gather_fits : Plan → Bool
gather_fits p = elements_fit 4 p.left (exec_size p.control.exec) && elements_fit 4 p.right (exec_size p.control.exec)

unfoldable pub gather_guarded : ℕ → Plan → Buffer → Buffer → Effect
gather_guarded mask p registers surfaces = unless (not (gather_fits p)) 7 detail.None (gather_effect p (lanes_on mask p) registers surfaces)
