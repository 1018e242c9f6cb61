-- Where the loops that write begin, in the words of `Writes`; and where a channel's data begin.
use Prim.Native.Nat.{ℕ, ◌+◌, ◌*◌, ◌-◌}
use mathlib.Core.Path.{◌≡◌, ap}
use mathlib.Core.Bool.{Bool, false}
use mathlib.Core.List.{List}
use lib.ListN.{get_or}
use Rattle.cells.specs.Buffer.{Buffer}
use Rattle.cells.specs.Writes.{written_all, copy_writes}
use Rattle.cells.specs.Over.{among_from, each}
use Rattle.cells.proofs.AmongLaws.{among-begun}
use Rattle.cells.proofs.LaneLaws.{lanes-begun}
use Rattle.bits.specs.Bits.{bit}
use Rattle.payloads.specs.Needed.{enabled_below}
use Rattle.scatter_pairs.specs.declared.Pairs.{Pairs}
use Rattle.scatter_pairs.specs.Mirror.Search.{target_from, enabled_lanes}
use Rattle.scatter_writes.specs.Mirror.Writes.{row_place, pair_writes, row_writes, all_writes}

pub pair-written : (base : ℕ) (room : Buffer) (begin sum asked c lane address to : ℕ) (b b' : Buffer) → b' ≡ written_all (copy_writes room (begin + 4 * lane) to 4) b → asked ≡ sum → address ≡ target_from asked c → to ≡ address - base → b' ≡ written_all (pair_writes base room begin sum c lane) b
unfolding pair_writes
pair-written base room begin sum asked c lane address to b b' made told a t = rw (← told, ← a, ← t) made

module _ (base : ℕ) (room : Buffer) where
  pub row-begun : (begin : ℕ) (on : List Bool) (sums : List ℕ) (lanes c : ℕ) → each (λ i. pair_writes base room begin (get_or sums i 0) c i) (among_from (λ k. get_or on k false) 0 (lanes - 0)) ≡ row_writes base room begin on sums lanes c
  unfolding row_writes enabled_lanes
  row-begun begin on sums lanes c = ap (each (λ i. pair_writes base room begin (get_or sums i 0) c i)) (among-begun (λ k. get_or on k false) lanes)

  pub rows-begun : (s : Pairs) (on : List Bool) (sums : List ℕ) → each (λ c. row_writes base room (row_place s c) on sums s.lanes c) (among_from (bit s.channels) 0 (4 - 0)) ≡ all_writes base room s on sums
  unfolding all_writes
  rows-begun s on sums = ap (each (λ c. row_writes base room (row_place s c) on sums s.lanes c)) (among-begun (bit s.channels) 4)

  -- the same of what they write
  pub row_written : (begin : ℕ) (on : List Bool) (sums : List ℕ) (lanes c : ℕ) (b : Buffer) → written_all (each (λ i. pair_writes base room begin (get_or sums i 0) c i) (among_from (λ k. get_or on k false) 0 (lanes - 0))) b ≡ written_all (row_writes base room begin on sums lanes c) b
  unfolding row_writes enabled_lanes
  row_written begin on sums lanes c b = lanes-begun (λ i. pair_writes base room begin (get_or sums i 0) c i) (λ k. get_or on k false) lanes b

  pub rows_written : (s : Pairs) (on : List Bool) (sums : List ℕ) (b : Buffer) → written_all (each (λ c. row_writes base room (row_place s c) on sums s.lanes c) (among_from (bit s.channels) 0 (4 - 0))) b ≡ written_all (all_writes base room s on sums) b
  unfolding all_writes
  rows_written s on sums b = lanes-begun (λ c. row_writes base room (row_place s c) on sums s.lanes c) (bit s.channels) 4 b

pub row_told : (s : Pairs) (c below r : ℕ) → below ≡ enabled_below s.channels c → r ≡ s.first + 4 * (below * s.stride) → r ≡ row_place s c
unfolding row_place
row_told s c below r counted made = rw (← counted) made
