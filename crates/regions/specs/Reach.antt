-- How far the elements of an operand reach (refusal 7). Document 01, "Regions": "All ExecSize elements, enabled or not, lie in the variable
-- and touch at most two adjacent registers, lowest byte to highest"; document 02, request 5: "the two-register rule .. follow[s] the chosen size".
use Rattle.std.specs.Prelude.{ℕ, zero, suc, ◌+◌, ◌*◌, ◌-◌, ◌/◌, min, max, Bool, ◌&&◌, ltb, leb}
use Rattle.element_types.specs.Types.{size_of}
use Rattle.bits.specs.Below.{every_below}
use Rattle.regions.specs.declared.Variable.{Variable}

-- the lowest and the highest of element 0, 1, .., lanes - 1
unfoldable pub lowest : (ℕ → ℕ) → ℕ → ℕ
lowest element zero = element 0
lowest element (suc n) = min (lowest element n) (element n)

unfoldable pub highest : (ℕ → ℕ) → ℕ → ℕ
highest element zero = element 0
highest element (suc n) = max (highest element n) (element n)

-- "All ExecSize elements, enabled or not, lie in the variable"
unfoldable pub inside_variable : (ℕ → ℕ) → ℕ → ℕ → Bool
inside_variable element lanes count = every_below lanes (λ k. ltb (element k) count)

-- "at most two adjacent registers": the register of the last byte is at most the one after that of the first
unfoldable pub two_registers : ℕ → ℕ → ℕ → Bool
two_registers register_size first last = leb (last / register_size) (first / register_size + 1)

-- "lowest byte to highest", in the register file
unfoldable pub reach_good : ℕ → (ℕ → ℕ) → ℕ → ℕ → ℕ → Bool
reach_good register_size element lanes start size =
    two_registers register_size (start + lowest element lanes * size) (start + highest element lanes * size + size - 1)

-- "All ExecSize elements .. lie in the variable and touch at most two adjacent registers, lowest byte to highest."
unfoldable pub elements_good : ℕ → Variable → (ℕ → ℕ) → ℕ → Bool
elements_good register_size v element lanes =
    inside_variable element lanes v.count && reach_good register_size element lanes v.start (size_of v.code)
