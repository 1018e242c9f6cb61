-- The table of predicates: of each its bits, and how many of them are its elements. Document 01, "Tables and sizes"; document 02, request 3:
-- "Each predicate's record gains a count from 1 to 32".
use Rattle.std.specs.Prelude.{ℕ, Bool, ◌&&◌, List, ltb, leb, eqb, length, get_or}
use Rattle.bits.specs.Below.{every_below}
use Rattle.predicate_table.specs.declared.PredicateRecord.{PredicateRecord}

-- predicate k has the k-th bits and count
pub record Predicates : Type 0 where
  pub bits : List ℕ
  pub counts : List ℕ

abbrev pub predicates : List ℕ → List ℕ → Predicates
predicates bits counts = record { bits = bits; counts = counts }

-- the record of a predicate; past the ends of the table's lists bits and count are 0
unfoldable pub predicate_at : Predicates → ℕ → PredicateRecord
predicate_at t k = record { present = ltb k (length t.bits); bits = get_or t.bits k 0; count = get_or t.counts k 0 }

-- "a count from 1 to 32"
unfoldable pub count_good : ℕ → Bool
count_good count = leb 1 count && leb count 32

unfoldable pub count_good_at : List ℕ → ℕ → Bool
count_good_at counts k = count_good (get_or counts k 0)

-- "At most .. 64 predicates"; the table's two slices are of one length; "a bad count is 13"
unfoldable pub predicates_good : Predicates → Bool
predicates_good t =
    leb (length t.bits) 64
    && eqb (length t.counts) (length t.bits)
    && every_below (length t.counts) (count_good_at t.counts)
