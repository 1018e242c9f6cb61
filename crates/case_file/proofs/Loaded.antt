-- What the loader holds, as a function of the contents of each kind: the counters, and each content at its buffer's start.
use mathlib.Core.Bool.{false}
use mathlib.Core.List.{[], ◌∷◌, map, flatten}
use Prim.Native.Nat.{ℕ}
use lib.ListN.{length}
use Rattle.tally.specs.declared.Case.{Case}
use Rattle.tally.specs.Mirror.Reading.{Contents, contents, Tables, tables, Reading, reading}
use Rattle.case_file.specs.Frames.{first_of}
use Rattle.case_file.specs.Case.{type_of, start_of, count_of, dword_of, predicate_count_of, base_of, memory_of, register_size_of}
use Rattle.case_file.proofs.Padded.{padded}
use Rattle.case_file.proofs.ByKind.{Kinds}

abbrev pub case_at : Kinds → ℕ → Case
case_at g lines =
    record {
      lines = lines;
      bad = 0;
      full = false;
      met = 0 ∷ length (g 1) ∷ length (g 2) ∷ length (g 3) ∷ length (g 4) ∷ length (g 5) ∷ length (g 6) ∷ length (g 7) ∷ length (g 8) ∷ length (g 9) ∷ length (g 10) ∷ length (g 11) ∷ [];
      lengths = 0 ∷ length (first_of (g 1)) ∷ 0 ∷ 0 ∷ length (flatten (g 4)) ∷ length (memory_of (first_of (g 5))) ∷ 0 ∷ length (first_of (g 7)) ∷ length (first_of (g 8)) ∷ length (first_of (g 9)) ∷ length (first_of (g 10)) ∷ 0 ∷ [];
      settings = record { base = base_of (first_of (g 5)); mask = dword_of (first_of (g 6)); register_size = register_size_of (g 11) };
    }

-- over buffers of whatever was in them
module _ (z : Contents) (t : Tables) where
  abbrev pub contents_at : Kinds → Contents
  contents_at g =
      contents
      (padded z.registers (first_of (g 1)))
      (padded z.memory (memory_of (first_of (g 5))))
      (padded z.kernel (first_of (g 7)))
      (padded z.register_taint (first_of (g 8)))
      (padded z.surface_taint (first_of (g 9)))
      (padded z.memory_taint (first_of (g 10)))

  abbrev pub tables_at : Kinds → Tables
  tables_at g =
      tables
      (padded t.types (map type_of (g 2)))
      (padded t.starts (map start_of (g 2)))
      (padded t.counts (map count_of (g 2)))
      (padded t.predicate_bits (map dword_of (g 3)))
      (padded t.predicate_counts (map predicate_count_of (g 3)))
      (padded t.surfaces (flatten (g 4)))
      (padded t.lengths (map length (g 4)))

  abbrev pub reading_at : Kinds → ℕ → Reading
  reading_at g lines = reading (case_at g lines) (contents_at g) (tables_at g)
