-- What was read of a case file: its state, and the caller's buffers.
use Rattle.std.specs.Prelude.{ℕ, List}
use Rattle.tally.specs.declared.Case.{Case}

-- the buffers of the frames that come once at most
pub record Contents : Type 0 where
  pub registers : List ℕ
  pub memory : List ℕ
  pub kernel : List ℕ
  pub register_taint : List ℕ
  pub surface_taint : List ℕ
  pub memory_taint : List ℕ

-- those of the frames that repeat: types, start bytes and element counts of the variables; bits and element counts of the predicates; the bytes
-- of all surfaces, one after the other, and the length of each
pub record Tables : Type 0 where
  pub types : List ℕ
  pub starts : List ℕ
  pub counts : List ℕ
  pub predicate_bits : List ℕ
  pub predicate_counts : List ℕ
  pub surfaces : List ℕ
  pub lengths : List ℕ

pub record Reading : Type 0 where
  pub case : Case
  pub contents : Contents
  pub tables : Tables

abbrev pub contents : List ℕ → List ℕ → List ℕ → List ℕ → List ℕ → List ℕ → Contents
contents registers memory kernel register_taint surface_taint memory_taint =
    record { registers = registers; memory = memory; kernel = kernel; register_taint = register_taint; surface_taint = surface_taint; memory_taint = memory_taint }

abbrev pub tables : List ℕ → List ℕ → List ℕ → List ℕ → List ℕ → List ℕ → List ℕ → Tables
tables types starts counts predicate_bits predicate_counts surfaces lengths =
    record { types = types; starts = starts; counts = counts; predicate_bits = predicate_bits; predicate_counts = predicate_counts; surfaces = surfaces; lengths = lengths }

abbrev pub reading : Case → Contents → Tables → Reading
reading case contents tables = record { case = case; contents = contents; tables = tables }

-- another state, and nothing stored
abbrev pub only : Case → Reading → Reading
only case r = reading case r.contents r.tables
