-- How many bytes a raw operand needs, from its offset on. Document 01, "Regions"; document 02, request 5, for registers of another size.
use Rattle.std.specs.Prelude.{ℕ, zero, suc, ◌+◌, ◌*◌, ◌-◌, ◌/◌, ◌%◌, ◌^◌, max, cond, eqb}
use Rattle.element_types.specs.Types.{UD, size_of}
use Rattle.exec_byte.specs.Exec.{exec_size}

-- all ExecSize elements, of the type with this code
unfoldable pub elements_needed : ℕ → ℕ → ℕ
elements_needed exec code = exec_size exec * size_of code

-- "the number of enabled channels below c"
unfoldable pub enabled_below : ℕ → ℕ → ℕ
enabled_below channels zero = 0
enabled_below channels (suc c) = enabled_below channels c + channels / 2 ^ c % 2

-- "Scatter data of successive channels are max(ExecSize, size/4) dwords apart" (document 02, request 5): from a channel's data to the next channel's
unfoldable pub channel_stride : ℕ → ℕ → ℕ
channel_stride register_size exec = max (exec_size exec) (register_size / 4)

-- "Scatter with k channels needs (k-1)·max(ExecSize, 8)+ExecSize dwords", with the stride in the place of the max
unfoldable pub scatter_needed : ℕ → ℕ → ℕ → ℕ
scatter_needed stride exec channels = ((enabled_below channels 4 - 1) * stride + exec_size exec) * size_of UD

-- "RAW_SEND needs 32 bytes per register counted", 32 or the size chosen
unfoldable pub registers_needed : ℕ → ℕ → ℕ
registers_needed register_size count = register_size * count

-- "Num_blocks codes 0, 1, 2 are 1, 2, 4 bytes."
unfoldable pub block_bytes : ℕ → ℕ
block_bytes code = cond (eqb code 0) 1 (cond (eqb code 1) 2 4)
