-- The exec byte as a table. Document 02, request 4: "a table of 256 entries, each giving size, offset, mask kind or reserved"; an entry is one number.
use Rattle.std.specs.Prelude.{ℕ, ◌+◌, ◌*◌, cond}
use Rattle.exec_byte.specs.Exec.{exec_reserved, exec_size, exec_offset, no_mask}

-- 0 for reserved, else the size, 64 times the offset, and 4096 for NM
unfoldable pub exec_code : ℕ → ℕ
exec_code exec = cond (exec_reserved exec) 0 (exec_size exec + 64 * exec_offset exec + cond (no_mask exec) 4096 0)
