-- Each limit of `lengths_good` at its edge and one past it, computed.
use mathlib.Core.Path.{◌≡◌, refl}
use mathlib.Core.Bool.{Bool, true, false}
use Prim.Native.Nat.{ℕ, ◌-◌, ◌^◌}
use Rattle.lengths.specs.declared.Lengths.{Lengths}
use Rattle.lengths.specs.Lengths.{register_size_good, registers_good, addresses_good, taint_good, lengths_good}

sized : ℕ → ℕ → ℕ → ℕ → ℕ → Lengths
sized register_size kernel registers memory base =
    record {
      kernel = kernel;
      registers = registers;
      surfaces = 0;
      memory = memory;
      base = base;
      register_size = register_size;
      taint = record { registers = registers; surfaces = 0; memory = memory };
    }

buffers : ℕ → ℕ → ℕ → ℕ → Bool
buffers kernel registers memory base = lengths_good (sized 32 kernel registers memory base)

-- buffers of 32, 10 and 8 bytes with these taint lengths
tainted : ℕ → ℕ → ℕ → Bool
tainted registers surface_bytes memory =
    lengths_good
    (record {
      kernel = 0;
      registers = 32;
      surfaces = 10;
      memory = 8;
      base = 0;
      register_size = 32;
      taint = record { registers = registers; surfaces = surface_bytes; memory = memory };
    })

-- the register file alone
file : ℕ → ℕ → Bool
file register_size registers = lengths_good (sized register_size 0 registers 0 0)

lengths-at-edges : (buffers 0 0 0 0 ≡ true)
    × (buffers 0 4096 0 0 ≡ true)
    × (buffers 0 4128 0 0 ≡ false)
    × (buffers 0 48 0 0 ≡ false)
    × (buffers 4096 0 4096 0 ≡ true)
    × (buffers 4097 0 0 0 ≡ false)
    × (buffers 0 0 4097 0 ≡ false)
    × (buffers 0 0 8 (2 ^ 64 - 8) ≡ true)
    × (buffers 0 0 9 (2 ^ 64 - 8) ≡ false)
    × (buffers 0 0 0 (2 ^ 64 - 1) ≡ true)
    × (tainted 32 10 8 ≡ true)
    × (tainted 31 10 8 ≡ false)
    × (tainted 32 11 8 ≡ false)
    × (tainted 32 10 0 ≡ false)
unfolding sized buffers tainted register_size_good registers_good addresses_good taint_good lengths_good
lengths-at-edges = (refl, refl, refl, refl, refl, refl, refl, refl, refl, refl, refl, refl, refl, refl)

-- document 02, request 5: the same file at either size, and sizes that no card has
sizes-at-edges : (file 32 96 ≡ true)
    × (file 64 96 ≡ false)
    × (file 64 4096 ≡ true)
    × (file 64 4160 ≡ false)
    × (file 0 0 ≡ false)
    × (file 16 64 ≡ false)
    × (file 48 96 ≡ false)
    × (file 128 128 ≡ false)
unfolding sized file register_size_good registers_good addresses_good taint_good lengths_good
sizes-at-edges = (refl, refl, refl, refl, refl, refl, refl, refl)
