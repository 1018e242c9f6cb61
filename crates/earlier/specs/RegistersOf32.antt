-- What document 01 says of registers, which have 32 bytes there: the definitions that document 02's request 5 gave a size.
use Rattle.std.specs.Prelude.{ℕ, ◌+◌, ◌*◌, ◌-◌, ◌/◌, ◌%◌, Bool, cond, ◌&&◌, ltb, leb, eqb, get_or}
use Rattle.element_types.specs.Types.{UD, size_of}
use Rattle.exec_byte.specs.Exec.{exec_size}
use Rattle.operand_fields.specs.declared.General.{General}
use Rattle.lengths.specs.declared.Lengths.{Lengths}
use Rattle.lengths.specs.Lengths.{addresses_good, taint_good}
use Rattle.plan.specs.Plan.{Plan}
use Rattle.payloads.specs.Needed.{enabled_below}

-- "Register file: multiple of 32, at most 4,096."
unfoldable pub registers_good32 : ℕ → Bool
registers_good32 bytes = eqb (bytes % 32) 0 && leb bytes 4096

-- "Kernel and memory: at most 4,096 each"
unfoldable pub lengths_good32 : Lengths → Bool
lengths_good32 l =
    registers_good32 l.registers
    && leb l.kernel 4096
    && leb l.memory 4096
    && addresses_good l.base l.memory
    && taint_good l

-- "at a multiple of 32 if it is 32 bytes or longer, and otherwise crosses no 32-byte line"
unfoldable pub line_good32 : ℕ → ℕ → Bool
line_good32 start bytes = cond (leb 32 bytes) (eqb (start % 32) 0) (eqb (start / 32) ((start + bytes - 1) / 32))

-- "R·(32/size)+C"
unfoldable pub first_element32 : General → ℕ → ℕ
first_element32 g size = g.row * (32 / size) + g.column

-- "at most two adjacent registers"
unfoldable pub two_registers32 : ℕ → ℕ → Bool
two_registers32 first last = leb (last / 32) (first / 32 + 1)

-- "RAW_SEND needs 32 bytes per register counted"
unfoldable pub registers_needed32 : ℕ → ℕ
registers_needed32 count = 32 * count

-- "max(ExecSize, 8)"
unfoldable pub channel_stride32 : ℕ → ℕ
channel_stride32 exec = cond (ltb (exec_size exec) 8) 8 (exec_size exec)

-- "Scatter with k channels needs (k-1)·max(ExecSize, 8)+ExecSize dwords."
unfoldable pub scatter_needed32 : ℕ → ℕ → ℕ
scatter_needed32 exec channels = ((enabled_below channels 4 - 1) * channel_stride32 exec + exec_size exec) * size_of UD

-- "Its data are dword p·max(ExecSize, 8)+i of Src"
unfoldable pub source_byte32 : Plan → ℕ → ℕ → ℕ
source_byte32 p c lane =
    get_or p.payload.at 0 0 + 4 * (enabled_below p.channels c * channel_stride32 p.control.exec + lane)
