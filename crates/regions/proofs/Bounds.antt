-- Bounds of products and quotients: what the code's numbers need to fit.
use Prim.Native.Nat.{ℕ, ◌*◌, ◌/◌, ◌%◌, ◌≤◌}
use native.Mathlib.Omega.{arith}
use native.Mathlib.Nat.{mul-le-mul, div-le_self, mod-le, le_trans}
use Rattle.regions.specs.declared.Grid.{Grid}
use Rattle.regions.specs.Mirror.Grid.{grid_element}

pub times : (a b m n : ℕ) → a ≤ m → b ≤ n → a * b ≤ m * n
times a b m n h k = mul-le-mul h k

pub quotient-small : (a b m : ℕ) → a ≤ m → a / b ≤ m
quotient-small a b m h = le_trans (div-le_self a b) h

pub remainder-small : (a b m : ℕ) → a ≤ m → a % b ≤ m
remainder-small a b m h = le_trans (mod-le a b) h

-- the two strides' parts of an element
pub row_part : (lane width stride : ℕ) → lane ≤ 255 → stride ≤ 255 → lane / width * stride ≤ 65025
row_part lane width stride h k = times (lane / width) stride 255 255 (quotient-small lane width 255 h) k

pub place_part : (lane width stride : ℕ) → lane ≤ 255 → stride ≤ 255 → lane % width * stride ≤ 65025
place_part lane width stride h k = times (lane % width) stride 255 255 (remainder-small lane width 255 h) k

pub element-small : (g : Grid) (lane : ℕ) → g.first ≤ 65535 → g.vertical ≤ 255 → g.horizontal ≤ 255 → lane ≤ 255 → grid_element g lane ≤ 195585
unfolding grid_element
element-small g lane f v h l = omega (arith, row_part lane g.width g.vertical l v, place_part lane g.width g.horizontal l h)

-- an element's distance from the base
pub position_small : (g : Grid) (lane size : ℕ) → g.first ≤ 65535 → g.vertical ≤ 255 → g.horizontal ≤ 255 → lane ≤ 255 → size ≤ 255
    → grid_element g lane * size ≤ 49874175
position_small g lane size f v h l s = times (grid_element g lane) size 195585 255 (element-small g lane f v h l) s
