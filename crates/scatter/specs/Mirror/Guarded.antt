-- What a scatter does with any plan at all. Decoding admits 8 and 16 lanes only, and the guard asks for at most 16, and for channels at most 16 dwords apart: a decoded and checked
-- scatter passes (`sound-fits` in `proofs/SoundLaws.antt`; `planned-fits` of the crate step). A plan whose elements have no place in the room is
-- refused with 7 and writes nothing.
use Rattle.std.specs.Prelude.{ℕ, Bool, not, ◌&&◌, List, length, nat_le}
use Rattle.refusal.specs.declared.Detail.TheVariants as detail
use Rattle.cells.specs.Buffer.{Buffer}
use Rattle.cells.specs.Effect.{Effect, unless}
use Rattle.exec_byte.specs.Exec.{exec_size}
use Rattle.plan.specs.Plan.{Plan}
use Rattle.staging.specs.Lanes.{lanes_on}
use Rattle.staging.specs.Mirror.Room.{elements_fit}
use Rattle.scatter_effect.specs.Scatter.{Window, scatter_effect}

-- "scatter 8 and 16 only", channels' data at most 16 dwords apart (max(16, 64/4)), and UQ elements of 8 bytes
unfoldable pub scatter_fits : Plan → Bool
scatter_fits p =
    (nat_le (exec_size p.control.exec) 16 && nat_le p.stride 16)
    && (elements_fit 8 p.left (exec_size p.control.exec) && elements_fit 8 p.right (exec_size p.control.exec))

-- the window of a memory with this base
abbrev pub window : ℕ → List ℕ → Window
window base memory = record { base = base; length = length memory }

-- the mask is the paper's EM
unfoldable pub scatter_guarded : Window → ℕ → Plan → Buffer → Effect
scatter_guarded w mask p registers = unless (not (scatter_fits p)) 7 detail.None (scatter_effect w p (lanes_on mask p) registers)
