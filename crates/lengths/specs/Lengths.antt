-- The lengths of the caller's buffers, and the size of a register. Document 01, "Tables and sizes", and number 13; document 02, request 5.
use Rattle.std.specs.Prelude.{ℕ, ◌+◌, ◌%◌, ◌^◌, Bool, cond, ◌&&◌, ◌||◌, leb, eqb}
use Rattle.lengths.specs.declared.Lengths.{Lengths}

-- "A register is 32 bytes", and with request 5: "Let a run choose 32 or 64"; "any other size is 13"
unfoldable pub register_size_good : ℕ → Bool
register_size_good register_size = eqb register_size 32 || eqb register_size 64

-- the size that a number chooses; a run that chose neither is 13 and takes no step, so that it does not matter what another number stands for
unfoldable pub chosen_size : ℕ → ℕ
chosen_size number = cond (eqb number 64) 64 32

-- "Register file: multiple of 32, at most 4,096"; "the file's multiple follow[s] the chosen size", its limit does not
unfoldable pub registers_good : ℕ → ℕ → Bool
registers_good register_size bytes = eqb (bytes % register_size) 0 && leb bytes 4096

-- "Base plus memory length is at most 2^64."
unfoldable pub addresses_good : ℕ → ℕ → Bool
addresses_good base bytes = leb (base + bytes) (2 ^ 64)

-- 13 if "marks differ in length from their buffer"
unfoldable pub taint_good : Lengths → Bool
taint_good l =
    eqb l.taint.registers l.registers
    && eqb l.taint.surfaces l.surfaces
    && eqb l.taint.memory l.memory

-- "Kernel and memory: at most 4,096 each", and the four above
unfoldable pub lengths_good : Lengths → Bool
lengths_good l =
    register_size_good l.register_size
    && registers_good l.register_size l.registers
    && leb l.kernel 4096
    && leb l.memory 4096
    && addresses_good l.base l.memory
    && taint_good l
