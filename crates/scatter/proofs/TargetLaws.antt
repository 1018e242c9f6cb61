-- Two sums that wrap, one after the other, are one sum modulo 2^64.
use Rattle.std.proofs.Common.{◌≡◌, ℕ, ◌+◌, ◌%◌, ◌^◌, List, arith}
use Rattle.staging.specs.declared.Layout.{Layout}
use Rattle.staging.specs.Mirror.Room.{first_number, second_number}
use Rattle.scatter_effect.specs.Scatter.{target_address}
use Rattle.scatter_pairs.specs.Mirror.Search.{target_from}
use Rattle.scatter.specs.Mirror.FromRoom.{lane_sum}

pub sum_told : (bytes : List ℕ) (s : Layout) (lane address element r : ℕ) → address ≡ first_number bytes s lane → element ≡ second_number bytes s lane → r ≡ (address + element) % 2 ^ 64 → r ≡ lane_sum bytes s lane
unfolding lane_sum
sum_told bytes s lane address element r a e made = rw (← a, ← e) made

pub wrapped-twice : (address element c : ℕ) → target_from ((address + element) % 2 ^ 64) c ≡ target_address c address element
unfolding target_from target_address
wrapped-twice address element c = omega arith
