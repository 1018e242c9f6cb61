-- A grid's elements are those that `Regions` says.
use mathlib.Core.Path.{◌≡◌, refl, fun_ext}
use Prim.Native.Nat.{ℕ, ◌+◌, ◌*◌, ◌/◌, ◌%◌, ◌≤◌, ◌<◌}
use native.Mathlib.Omega.{arith}
use native.Mathlib.Nat.{div-one, mod-one}
use lib.Dec.{eqb}
use borrow.Author.Tests.{eqb-false}
use Rattle.operand_fields.specs.declared.General.{General}
use Rattle.region_rules.specs.declared.Role.{Role}
use Rattle.region_rules.specs.declared.Role.TheVariants as role
use Rattle.regions.specs.declared.Grid.{Grid}
use Rattle.region_rules.specs.RegionWord.{stride_of}
use Rattle.regions.specs.Regions.{source_element, element_of}
use Rattle.regions.specs.Mirror.Grid.{grid_element, grid_of}
use Rattle.regions.proofs.ReachLaws.{cond_either}

none : (n : ℕ) → 2 ≤ n → n ≤ 6 → (n ≡ 2 → ⊥) → (n ≡ 3 → ⊥) → (n ≡ 4 → ⊥) → (n ≡ 5 → ⊥) → (n ≡ 6 → ⊥) → ⊥
none n low high two three four five six = omega arith

scaled : (first k stride : ℕ) → first + k / 1 * stride + k % 1 * 0 ≡ first + k * stride
scaled first k stride = rw (div-one k, mod-one k) (omega arith)

grid-is : (register_size : ℕ) (r : Role) (g : General) (size k : ℕ) → grid_element (grid_of register_size r g size) k ≡ element_of register_size r g size k
unfolding grid_element grid_of element_of source_element
grid-is register_size role.Source g size k = refl
grid-is register_size role.Scalar g size k = omega arith
grid-is register_size role.Destination g size k = scaled _ k _

pub grid_elements : (register_size : ℕ) (r : Role) (g : General) (size : ℕ) → grid_element (grid_of register_size r g size) ≡ element_of register_size r g size
grid_elements register_size r g size = fun_ext (grid-is register_size r g size)

-- as the code learns it
pub grid-known : (register_size : ℕ) (r : Role) (g : General) (size whole : ℕ) (grid : Grid) → size ≡ whole → grid ≡ grid_of register_size r g size → grid_element grid ≡ element_of register_size r g whole
grid-known register_size r g size whole grid e h = rw (h, e) (grid_elements register_size r g whole)

-- elements one after the other, as a raw operand's are
abbrev consecutive : Grid
consecutive = record { first = 0; vertical = 1; width = 1; horizontal = 0 }

consecutive-is : (k : ℕ) → grid_element consecutive k ≡ k
unfolding grid_element
consecutive-is k = rw (div-one k, mod-one k) (omega arith)

pub consecutive_elements : grid_element consecutive ≡ (λ k. k)
consecutive_elements = fun_ext consecutive-is

-- a code from 2 on has a stride
pub stride-some : (code : ℕ) → 2 ≤ code → code ≤ 6 → 0 < stride_of code
unfolding stride_of
stride-some code low high =
    let P : ℕ → Type 0 = λ n. 0 < n in
    cond_either P (eqb code 2) (λ _. omega arith)
    (λ two. cond_either P (eqb code 3) (λ _. omega arith)
    (λ three. cond_either P (eqb code 4) (λ _. omega arith)
    (λ four. cond_either P (eqb code 5) (λ _. omega arith)
    (λ five. cond_either P (eqb code 6) (λ _. omega arith)
    (λ six. absurd (none code low high (eqb-false code 2 two) (eqb-false code 3 three) (eqb-false code 4 four) (eqb-false code 5 five) (eqb-false code 6 six)))))))
