-- The enabled lanes of an instruction, in order.
use Rattle.std.specs.Prelude.{ℕ, List}
use Rattle.cells.specs.Over.{among}
use Rattle.exec_byte.specs.Exec.{exec_size}
use Rattle.channels.specs.Lanes.{lane_on}
use Rattle.plan.specs.Plan.{Plan}

-- the mask is the paper's EM
unfoldable pub lanes_on : ℕ → Plan → List ℕ
lanes_on mask p = among (lane_on p.control.exec p.control.pred mask p.bits) (exec_size p.control.exec)
