-- Which line of a case file is bad. Document 01, "The bench table": "Anything else, an empty line or one over 16,386 characters included, is 14,
-- at the first such line".
use Rattle.std.specs.Prelude.{ℕ, suc, Bool, cond, ◌&&◌, ◌||◌, List, [], ◌∷◌, ◌++◌, leb, eqb, length}
use Rattle.hex_text.specs.Bytes.{is_hex, hex_bytes}
use Rattle.case_file.specs.Frames.{kind_of, content_of, of_kind}

-- whether the kind is listed, and may have this content
unfoldable pub content_good : ℕ → List ℕ → Bool
content_good kind content =
    cond (eqb kind 0x02) (eqb (length content) 5)  -- "type ub, start uw, count uw"
    (cond (eqb kind 0x03) (eqb (length content) 4 || eqb (length content) 5)  -- "predicate ud", "a further count byte"
    (cond (eqb kind 0x05) (leb 8 (length content))  -- "base uq and memory"
    (cond (eqb kind 0x06) (eqb (length content) 4)  -- "EM ud"
    (cond (eqb kind 0x0b) (eqb (length content) 1)  -- "one byte"; whether a card has such registers is the run's to say
    (leb 0x01 kind && leb kind 0x0a)))))  -- any bytes: registers, surface, kernel, marks

-- "02, 03, 04 repeat .. others once at most"
unfoldable pub repeats : ℕ → Bool
repeats kind = eqb kind 0x02 || eqb kind 0x03 || eqb kind 0x04

-- a frame, after those that stand before it
unfoldable pub frame_good : List (List ℕ) → List ℕ → Bool
frame_good before frame =
    content_good (kind_of frame) (content_of frame)
    && (repeats (kind_of frame) || eqb (length (of_kind (kind_of frame) before)) 0)

-- a line, after the frames of the lines before it
unfoldable pub file_line_good : List (List ℕ) → List ℕ → Bool
file_line_good before line = leb (length line) 16386 && is_hex line && frame_good before (hex_bytes line)

-- the "line number from 1" of the first bad line, where `before` are the frames of the lines already met, all good; 0 if no line is bad
unfoldable pub first_bad : List (List ℕ) → List (List ℕ) → ℕ
first_bad before [] = 0
first_bad before (line ∷ lines) =
    cond (file_line_good before line) (first_bad (before ++ (hex_bytes line ∷ [])) lines) (suc (length before))
