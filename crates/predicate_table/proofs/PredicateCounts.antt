-- A table of predicates is good exactly where it has at most 64 of them and as many counts as bits, each from 1 to 32.
use mathlib.Core.Path.{◌≡◌}
use mathlib.Core.Bool.{true}
use Prim.Native.Nat.{ℕ, ◌≤◌, ◌<◌}
use lib.Dec.{leb, eqb}
use lib.ListN.{length, get_or}
use borrow.Author.Tests.{leb-true, eqb-true, le-leb, eq-eqb}
use Rattle.bits.specs.Below.{every_below}
use Rattle.predicate_table.specs.Predicates.{Predicates, count_good, count_good_at, predicates_good}
use Rattle.bits.proofs.All.{All3, left, right, all3}
use Rattle.bits.proofs.Every.{every-each, every_holds}

pub good-count : (count : ℕ) → count_good count ≡ true → (1 ≤ count) × (count ≤ 32)
unfolding count_good
good-count count h = (leb-true 1 count (left (leb 1 count) (leb count 32) h), leb-true count 32 (right (leb 1 count) (leb count 32) h))

module _ (t : Predicates) (good : predicates_good t ≡ true) where
  tests : All3 (leb (length t.bits) 64) (eqb (length t.counts) (length t.bits)) (every_below (length t.counts) (count_good_at t.counts))
  unfolding predicates_good
  tests = all3 _ _ _ good

  pub predicates-few : length t.bits ≤ 64
  predicates-few = leb-true _ _ tests.first

  pub counts-length : length t.counts ≡ length t.bits
  counts-length = eqb-true _ _ tests.second

  pub count-within : (k : ℕ) → k < length t.bits → (1 ≤ get_or t.counts k 0) × (get_or t.counts k 0 ≤ 32)
  unfolding count_good_at
  count-within k h = good-count (get_or t.counts k 0) (every-each (count_good_at t.counts) (length t.counts) tests.third k (rw counts-length h))

count-good : (count : ℕ) → (1 ≤ count) × (count ≤ 32) → count_good count ≡ true
unfolding count_good
count-good count h = rw (le-leb 1 count h.0, le-leb count 32 h.1)

pub predicates-good : (t : Predicates) → length t.bits ≤ 64 → length t.counts ≡ length t.bits
    → ((k : ℕ) → k < length t.bits → (1 ≤ get_or t.counts k 0) × (get_or t.counts k 0 ≤ 32)) → predicates_good t ≡ true
unfolding predicates_good count_good_at
predicates-good t few same within =
    rw (le-leb _ 64 few, eq-eqb _ _ same, every_holds (count_good_at t.counts) (length t.counts) (λ k h. count-good (get_or t.counts k 0) (within k (rw same at h))))
