-- The case that the frames of a case file describe: what a run borrows. Document 01, "The bench table": "02, 03, 04 repeat, numbered from 0 in
-- their order; others once at most; absent means empty, base 0, EM 0, marks all 0."
use Rattle.std.specs.Prelude.{ℕ, cond, eqb, length, get_or, drop, replicate}
use mathlib.Core.List.{List, [], ◌∷◌, map, flatten}
use Rattle.little_endian.specs.LittleEndian.{number_at}
use Rattle.cells.specs.Buffer.{Buffer, buffer}
use Rattle.step.specs.State.{Setup, State}
use Rattle.case_file.specs.Frames.{of_kind, only_of}

-- "02 variable (type ub, start uw, count uw)"
unfoldable pub type_of : List ℕ → ℕ
type_of content = get_or content 0 0

unfoldable pub start_of : List ℕ → ℕ
start_of content = number_at 2 content 1

unfoldable pub count_of : List ℕ → ℕ
count_of content = number_at 2 content 3

-- "03 predicate ud", "06 EM ud"; of no content, "absent means .. EM 0"
unfoldable pub dword_of : List ℕ → ℕ
dword_of content = number_at 4 content 0

-- document 02, request 3: "frame 03 takes a further count byte, and an old four-byte frame means 32"
unfoldable pub predicate_count_of : List ℕ → ℕ
predicate_count_of content = cond (eqb (length content) 5) (get_or content 4 0) 32

-- "05 base uq and memory"; of no content, "absent means empty, base 0"
unfoldable pub base_of : List ℕ → ℕ
base_of content = number_at 8 content 0

unfoldable pub memory_of : List ℕ → List ℕ
memory_of content = drop 8 content

-- document 02, request 5: "A frame 0b with one byte, 20 or 40 in hex, picks the size; absent means 32"; to "any other size" the run answers 13
unfoldable pub register_size_of : List (List ℕ) → ℕ
register_size_of [] = 32
register_size_of (content ∷ contents) = get_or content 0 0

-- what does not change
unfoldable pub case_setup : List (List ℕ) → Setup
case_setup frames =
    record {
      kernel = only_of 0x07 frames;
      tables = record {
        variables = record {
          types = map type_of (of_kind 0x02 frames);
          starts = map start_of (of_kind 0x02 frames);
          counts = map count_of (of_kind 0x02 frames);
        };
        predicates = record { bits = map dword_of (of_kind 0x03 frames); counts = map predicate_count_of (of_kind 0x03 frames) };
        surfaces = record { lengths = map length (of_kind 0x04 frames) };
      };
      constants = record { base = base_of (only_of 0x05 frames); mask = dword_of (only_of 0x06 frames); register_size = register_size_of (of_kind 0x0b frames) };
    }

-- "absent means .. marks all 0": as many as there are bytes to mark
unfoldable pub marks_of : List (List ℕ) → List ℕ → List ℕ
marks_of [] bytes = replicate (length bytes) 0
marks_of (content ∷ contents) bytes = content

abbrev pub with_marks : List (List ℕ) → List ℕ → Buffer
with_marks contents bytes = buffer bytes (marks_of contents bytes)

-- "08, 09, 0a marks of registers, surfaces in order, memory"
unfoldable pub case_state : List (List ℕ) → State
case_state frames =
    record {
      registers = with_marks (of_kind 0x08 frames) (only_of 0x01 frames);
      surfaces = with_marks (of_kind 0x09 frames) (flatten (of_kind 0x04 frames));
      memory = with_marks (of_kind 0x0a frames) (memory_of (only_of 0x05 frames));
    }
