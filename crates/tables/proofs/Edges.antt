-- Each limit of a variable at its edge and one past it, and each part of `tables_good` once, computed.
use mathlib.Core.Path.{◌≡◌, refl}
use mathlib.Core.Bool.{Bool, true, false}
use mathlib.Core.List.{[], ◌∷◌}
use Prim.Native.Nat.{ℕ, suc}
use native.Mathlib.Omega.{arith}
use lib.ListN.{replicate}
use Rattle.element_types.specs.Types.{UD, UW, UB, F, UQ, size_of, is_listed}
use Rattle.element_types.proofs.Sizes.{sizes, size-listed, unlisted}
use Rattle.lengths.specs.declared.Lengths.{Lengths}
use Rattle.lengths.specs.Lengths.{register_size_good, registers_good, addresses_good, taint_good, lengths_good}
use Rattle.bits.specs.Below.{every_below}
use Rattle.tables.specs.Variables.{Variables, variables, line_good, variable_good, variable_good_at, variables_good}
use Rattle.predicate_table.specs.Predicates.{predicates, count_good, count_good_at, predicates_good}
use Rattle.surface_table.specs.Surfaces.{surfaces, surface_length, surface_start, surface_good_at, surfaces_good}
use Rattle.tables.specs.Tables.{tables, tables_good}

sized : ℕ → ℕ → ℕ → Lengths
sized register_size registers surface_bytes =
    record {
      kernel = 0;
      registers = registers;
      surfaces = surface_bytes;
      memory = 0;
      base = 0;
      register_size = register_size;
      taint = record { registers = registers; surfaces = surface_bytes; memory = 0 };
    }

-- variables alone, in a file of so many bytes, with registers of this size
alone : ℕ → ℕ → Variables → Bool
alone register_size registers t = tables_good (sized register_size registers 0) (tables t (predicates [] []) (surfaces []))

variable_in : ℕ → ℕ → ℕ → ℕ → ℕ → Bool
variable_in register_size registers code start count = alone register_size registers (variables (code ∷ []) (start ∷ []) (count ∷ []))

variable : ℕ → ℕ → ℕ → Bool
variable = variable_in 32 64

-- variables of one byte, as many as the three slices say
byte_variables : ℕ → ℕ → ℕ → Bool
byte_variables types starts counts = alone 32 64 (variables (replicate types UB) (replicate starts 0) (replicate counts 1))

-- a file of so many bytes, a variable of one byte from this byte on, a predicate of so many elements, and a surface of 10 bytes in a buffer of so many
parts : ℕ → ℕ → ℕ → ℕ → Bool
parts registers start count surface_bytes =
    tables_good (sized 32 registers surface_bytes) (tables (variables (UB ∷ []) (start ∷ []) (1 ∷ [])) (predicates (0 ∷ []) (count ∷ [])) (surfaces (10 ∷ [])))

listed : (code size : ℕ) → size_of code ≡ suc size → is_listed code ≡ true
listed code size e = size-listed code (omega arith)

variables-at-edges : (variable UD 32 8 ≡ true)
    × (variable UD 16 8 ≡ false)
    × (variable UD 32 9 ≡ false)
    × (variable UD 64 1 ≡ false)
    × (variable UD 0 0 ≡ false)
    × (variable UB 1 31 ≡ true)
    × (variable UB 2 31 ≡ false)
    × (variable UB 31 1 ≡ true)
    × (variable UB 31 2 ≡ false)
    × (variable UW 31 1 ≡ false)
    × (variable UQ 8 1 ≡ true)
    × (variable UQ 4 1 ≡ false)
    × (variable F 0 1 ≡ true)
    × (variable 6 0 1 ≡ false)
unfolding sized alone variable_in variable register_size_good registers_good addresses_good taint_good lengths_good every_below line_good variable_good variable_good_at variables_good predicates_good surface_start surfaces_good tables_good
variables-at-edges =
    simp (
      listed UD 3 sizes.ud,
      listed UB 0 sizes.ub,
      listed UW 1 sizes.uw,
      listed UQ 7 sizes.uq,
      listed F 3 sizes.f,
      unlisted 6 sizes.six,
      sizes.ud,
      sizes.ub,
      sizes.uw,
      sizes.uq,
      sizes.f,
    )
    (refl, refl, refl, refl, refl, refl, refl, refl, refl, refl, refl, refl, refl, refl)

-- document 02, request 5: the same tables at either size
sizes-at-edges : (variable_in 32 128 UD 32 16 ≡ true)
    × (variable_in 64 128 UD 32 16 ≡ false)
    × (variable_in 32 128 UD 16 8 ≡ false)
    × (variable_in 64 128 UD 16 8 ≡ true)
    × (variable_in 32 128 UB 31 2 ≡ false)
    × (variable_in 64 128 UB 31 2 ≡ true)
    × (variable_in 64 128 UB 63 2 ≡ false)
unfolding sized alone variable_in register_size_good registers_good addresses_good taint_good lengths_good every_below line_good variable_good variable_good_at variables_good predicates_good surface_start surfaces_good tables_good
sizes-at-edges = simp (listed UD 3 sizes.ud, listed UB 0 sizes.ub, sizes.ud, sizes.ub) (refl, refl, refl, refl, refl, refl, refl)

-- the variable of `byte_variables`, so that 256 of them are one fact
one_byte : variable_good 32 64 UB 0 1 ≡ true
unfolding line_good variable_good
one_byte = simp (listed UB 0 sizes.ub, sizes.ub) refl

table-at-edges : (byte_variables 256 256 256 ≡ true)
    × (byte_variables 257 257 257 ≡ false)
    × (byte_variables 2 1 2 ≡ false)
    × (byte_variables 2 2 3 ≡ false)
unfolding sized alone byte_variables register_size_good registers_good addresses_good taint_good lengths_good every_below variable_good_at variables_good predicates_good surface_start surfaces_good tables_good
table-at-edges = simp one_byte (refl, refl, refl, refl)

every-part-counts : (parts 64 63 32 10 ≡ true) × (parts 48 0 32 10 ≡ false) × (parts 64 64 32 10 ≡ false) × (parts 64 63 33 10 ≡ false) × (parts 64 63 32 9 ≡ false)
unfolding sized parts register_size_good registers_good addresses_good taint_good lengths_good every_below line_good variable_good variable_good_at variables_good count_good count_good_at predicates_good surface_length surface_start surface_good_at surfaces_good tables_good
every-part-counts = simp (listed UB 0 sizes.ub, sizes.ub) (refl, refl, refl, refl, refl)
