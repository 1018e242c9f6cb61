-- One line of a case file. Document 01, "The bench table": "The bench program reads standard input, lower-case hex, first
-- byte the kind"; "Anything else, an empty line or one over 16,386 characters included, is 14, at the first such line and before any 13".
use Rattle.std.specs.Prelude.{ℕ, cond, List, ltb, eqb, get_or}
use Rattle.hex_text.specs.Bytes.{is_hex, hex_bytes}
use Rattle.tally.specs.Mirror.Reading.{Reading, reading, tables, only}
use Rattle.tally.specs.Mirror.Lines.{bad_line}
use Rattle.table_frames.specs.Mirror.Repeated.{Variables, variables, variable_read, Predicates, predicates, predicate_read, Surfaces, surfaces, surface_read}
use Rattle.once_frames.specs.Mirror.Once.{Once, once, once_read}

-- the reading with what a frame made of its part
abbrev pub with_variables : Reading → Variables → Reading
with_variables r v = reading v.case r.contents (tables v.types v.starts v.counts r.tables.predicate_bits r.tables.predicate_counts r.tables.surfaces r.tables.lengths)

abbrev pub with_predicates : Reading → Predicates → Reading
with_predicates r p = reading p.case r.contents (tables r.tables.types r.tables.starts r.tables.counts p.bits p.counts r.tables.surfaces r.tables.lengths)

abbrev pub with_surfaces : Reading → Surfaces → Reading
with_surfaces r s = reading s.case r.contents (tables r.tables.types r.tables.starts r.tables.counts r.tables.predicate_bits r.tables.predicate_counts s.bytes s.lengths)

abbrev pub with_once : Reading → Once → Reading
with_once r o = reading o.case o.contents r.tables

-- "02, 03, 04 repeat, .. others once at most"
unfoldable pub frame_read : ℕ → List ℕ → Reading → Reading
frame_read kind bytes r =
    cond (eqb kind 2) (with_variables r (variable_read bytes (variables r.case r.tables.types r.tables.starts r.tables.counts)))
    (cond (eqb kind 3) (with_predicates r (predicate_read bytes (predicates r.case r.tables.predicate_bits r.tables.predicate_counts)))
    (cond (eqb kind 4) (with_surfaces r (surface_read bytes (surfaces r.case r.tables.surfaces r.tables.lengths)))
    (with_once r (once_read kind bytes (once r.case r.contents)))))

-- a line's characters; after the first bad line nothing counts
unfoldable pub line_read : List ℕ → Reading → Reading
line_read line r =
    cond (ltb 0 r.case.bad) r
    (cond (is_hex line) (frame_read (get_or (hex_bytes line) 0 0) (hex_bytes line) r) (only (bad_line r.case) r))
