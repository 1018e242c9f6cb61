-- The frames that repeat, "numbered from 0 in their order". Document 01, "The bench table":
-- "02 variable (type ub, start uw, count uw), 03 predicate ud, 04 surface"; document 02, request 3: "frame 03 takes a further count byte".
-- A frame's bytes begin with its kind.
use Rattle.std.specs.Prelude.{ℕ, ◌+◌, Bool, true, false, cond, ◌&&◌, ◌||◌, List, ltb, leb, eqb, length, get_or, set, drop}
use Rattle.little_endian.specs.LittleEndian.{number_at}
use Rattle.hex_text.specs.Storing.{fits, stored}
use Rattle.tally.specs.declared.Case.{Case}
use Rattle.tally.specs.Mirror.Lines.{bad_line, good_line, met_of, length_of, counted, sized}

pub record Variables : Type 0 where
  pub case : Case
  pub types : List ℕ
  pub starts : List ℕ
  pub counts : List ℕ

abbrev pub variables : Case → List ℕ → List ℕ → List ℕ → Variables
variables case types starts counts = record { case = case; types = types; starts = starts; counts = counts }

-- five bytes; a variable more than the table has room for is 13
unfoldable pub variable_read : List ℕ → Variables → Variables
variable_read bytes v =
    cond (eqb (length (drop 1 bytes)) 5)
    (cond (ltb (met_of 2 v.case) (length v.types) && ltb (met_of 2 v.case) (length v.starts) && ltb (met_of 2 v.case) (length v.counts))
    (variables (counted 2 (met_of 2 v.case + 1) (good_line true v.case))
    (set v.types (met_of 2 v.case) (get_or bytes 1 0))
    (set v.starts (met_of 2 v.case) (number_at 2 bytes 2))
    (set v.counts (met_of 2 v.case) (number_at 2 bytes 4)))
    (variables (good_line false v.case) v.types v.starts v.counts))
    (variables (bad_line v.case) v.types v.starts v.counts)

pub record Predicates : Type 0 where
  pub case : Case
  pub bits : List ℕ
  pub counts : List ℕ

abbrev pub predicates : Case → List ℕ → List ℕ → Predicates
predicates case bits counts = record { case = case; bits = bits; counts = counts }

-- four bytes, or five: "a further count byte"
unfoldable pub predicate_sized : List ℕ → Bool
predicate_sized bytes = eqb (length (drop 1 bytes)) 4 || eqb (length (drop 1 bytes)) 5

-- "an old four-byte frame means 32"
unfoldable pub predicate_count : List ℕ → ℕ
predicate_count bytes = cond (eqb (length (drop 1 bytes)) 5) (get_or bytes 5 0) 32

-- a predicate more than the table has room for is 13; the count is stored as it stands
unfoldable pub predicate_read : List ℕ → Predicates → Predicates
predicate_read bytes p =
    cond (predicate_sized bytes)
    (cond (ltb (met_of 3 p.case) (length p.bits) && ltb (met_of 3 p.case) (length p.counts))
    (predicates (counted 3 (met_of 3 p.case + 1) (good_line true p.case))
    (set p.bits (met_of 3 p.case) (number_at 4 bytes 1))
    (set p.counts (met_of 3 p.case) (predicate_count bytes)))
    (predicates (good_line false p.case) p.bits p.counts))
    (predicates (bad_line p.case) p.bits p.counts)

pub record Surfaces : Type 0 where
  pub case : Case
  pub bytes : List ℕ
  pub lengths : List ℕ

abbrev pub surfaces : Case → List ℕ → List ℕ → Surfaces
surfaces case bytes lengths = record { case = case; bytes = bytes; lengths = lengths }

-- any bytes, behind those of the surfaces before it; more of them than 1,024, than the table or than the buffer has room for is 13
unfoldable pub surface_read : List ℕ → Surfaces → Surfaces
surface_read bytes s =
    cond (leb (length (drop 1 bytes)) 1024 && ltb (met_of 4 s.case) (length s.lengths))
    (cond (fits (drop 1 bytes) (length_of 4 s.case) s.bytes)
    (surfaces (sized 4 (length_of 4 s.case + length (drop 1 bytes)) (counted 4 (met_of 4 s.case + 1) (good_line true s.case)))
    (stored (drop 1 bytes) (length_of 4 s.case) s.bytes)
    (set s.lengths (met_of 4 s.case) (length (drop 1 bytes))))
    (surfaces (good_line false s.case) s.bytes s.lengths))
    (surfaces (good_line false s.case) s.bytes s.lengths)
