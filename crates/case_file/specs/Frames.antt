-- The frames of a case file. Document 01, "The bench table": "first byte the kind: 01 registers, 02 variable (type ub, start uw, count uw), 03
-- predicate ud, 04 surface, 05 base uq and memory, 06 EM ud, 07 kernel, 08, 09, 0a marks of registers, surfaces in order, memory"; document 02,
-- request 3: "frame 03 takes a further count byte, and an old four-byte frame means 32"; request 5: "A frame 0b with one byte, 20 or 40 in hex, picks
-- the size; absent means 32".
use Rattle.std.specs.Prelude.{ℕ, cond, List, [], ◌∷◌, eqb, get_or, drop}

-- a frame is the bytes of a line: its kind, then its content
abbrev pub kind_of : List ℕ → ℕ
kind_of frame = get_or frame 0 0

abbrev pub content_of : List ℕ → List ℕ
content_of frame = drop 1 frame

-- the contents of the frames of a kind: "numbered from 0 in their order"
unfoldable pub of_kind : ℕ → List (List ℕ) → List (List ℕ)
of_kind kind [] = []
of_kind kind (frame ∷ frames) = cond (eqb (kind_of frame) kind) (content_of frame ∷ of_kind kind frames) (of_kind kind frames)

unfoldable pub first_of : List (List ℕ) → List ℕ
first_of [] = []
first_of (content ∷ contents) = content

-- the content of a kind that comes "once at most"; "absent means empty"
abbrev pub only_of : ℕ → List (List ℕ) → List ℕ
only_of kind frames = first_of (of_kind kind frames)
