-- Where a good variable lies in the register file: each test of `variable_good` as a fact, for every variable of a good table.
use mathlib.Core.Path.{◌≡◌}
use mathlib.Core.Bool.{true, ◌&&◌}
use Prim.Native.Nat.{ℕ, ◌+◌, ◌*◌, ◌-◌, ◌/◌, ◌%◌, ◌≤◌, ◌<◌}
use native.Mathlib.Nat.{mul-le-mul}
use lib.Dec.{leb, eqb}
use lib.ListN.{length, get_or}
use borrow.Author.Tests.{leb-true, eqb-true, le-leb, lt-leb}
use Rattle.element_types.specs.Types.{size_of, is_listed}
use Rattle.element_types.proofs.Sizes.{listed-size, size_small}
use Rattle.bits.specs.Below.{every_below}
use Rattle.tables.specs.Variables.{Variables, line_good, variable_good, variable_good_at, variables_good}
use Rattle.bits.proofs.All.{All4, left, right, all4}
use Rattle.bits.proofs.Every.{every-each}

pub record Placed (register_size registers code start count : ℕ) : Type 0 where
  pub listed : is_listed code ≡ true
  pub sized : 0 < size_of code
  pub some : 1 ≤ count
  pub inside : start + count * size_of code ≤ registers
  pub aligned : start % size_of code ≡ 0
  pub long : register_size ≤ count * size_of code → start % register_size ≡ 0
  pub short : count * size_of code < register_size → start / register_size ≡ (start + count * size_of code - 1) / register_size

-- as the code learns it: a listed type has bytes, some elements of it too, and not too many
pub listed_some : (code : ℕ) → is_listed code ≡ true → 0 < size_of code
listed_some code h = listed-size code h

pub bytes_some : (code count : ℕ) → is_listed code ≡ true → 1 ≤ count → 0 < count * size_of code
bytes_some code count h k = mul-le-mul k (listed-size code h)

pub bytes_small : (code count : ℕ) → count ≤ 65535 → count * size_of code ≤ 524280
bytes_small code count h = mul-le-mul h (size_small code)

line-long : (register_size start bytes : ℕ) → line_good register_size start bytes ≡ true → register_size ≤ bytes → start % register_size ≡ 0
unfolding line_good
line-long register_size start bytes h g = eqb-true (start % register_size) 0 (rw (le-leb register_size bytes g) at h)

line-short : (register_size start bytes : ℕ) → line_good register_size start bytes ≡ true → bytes < register_size → start / register_size ≡ (start + bytes - 1) / register_size
unfolding line_good
line-short register_size start bytes h g =
    eqb-true (start / register_size) ((start + bytes - 1) / register_size) (rw (lt-leb register_size bytes g) at h)

good_placed : (register_size registers code start count : ℕ) → variable_good register_size registers code start count ≡ true → Placed register_size registers code start count
unfolding variable_good
good_placed register_size registers code start count h =
    let bytes = count * size_of code in
    let listed = is_listed code in
    let some = leb 1 count in
    let inside = leb (start + bytes) registers in
    let aligned = eqb (start % size_of code) 0 in
    let others = listed && some && inside && aligned in
    let a = all4 listed some inside aligned (left others (line_good register_size start bytes) h) in
    let line = right others (line_good register_size start bytes) h in
    record {
      listed = a.first;
      sized = listed-size code a.first;
      some = leb-true 1 count a.second;
      inside = leb-true (start + bytes) registers a.third;
      aligned = eqb-true (start % size_of code) 0 a.fourth;
      long = line-long register_size start bytes line;
      short = line-short register_size start bytes line;
    }

-- a good table of variables
module _ (register_size registers : ℕ) (t : Variables) (good : variables_good register_size registers t ≡ true) where
  tests : All4 (leb (length t.types) 256) (eqb (length t.starts) (length t.types)) (eqb (length t.counts) (length t.types))
      (every_below (length t.types) (variable_good_at register_size registers t))
  unfolding variables_good
  tests = all4 _ _ _ _ good

  pub variables-few : length t.types ≤ 256
  variables-few = leb-true (length t.types) 256 tests.first

  pub starts-length : length t.starts ≡ length t.types
  starts-length = eqb-true (length t.starts) (length t.types) tests.second

  pub counts-length : length t.counts ≡ length t.types
  counts-length = eqb-true (length t.counts) (length t.types) tests.third

  pub variable-placed : (k : ℕ) → k < length t.types → Placed register_size registers (get_or t.types k 0) (get_or t.starts k 0) (get_or t.counts k 0)
  unfolding variable_good_at
  variable-placed k h =
      good_placed register_size registers (get_or t.types k 0) (get_or t.starts k 0) (get_or t.counts k 0)
      (every-each (variable_good_at register_size registers t) (length t.types) tests.fourth k h)
