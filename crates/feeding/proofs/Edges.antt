-- Whole case files, computed: one of each way to be bad, and those that are just good.
use mathlib.Core.Path.{◌≡◌, refl}
use mathlib.Core.List.{List, [], ◌∷◌}
use Prim.Native.Nat.{ℕ}
use lib.ListN.{replicate}
use Rattle.little_endian.specs.LittleEndian.{number_at}
use Rattle.hex_text.specs.Digits.{is_decimal, is_letter, is_digit, digit_of, all_digits}
use Rattle.hex_text.specs.Bytes.{is_hex, hex_bytes}
use Rattle.hex_text.specs.Storing.{placed, fits, stored}
use Rattle.tally.specs.Mirror.Reading.{Reading, reading, contents, tables}
use Rattle.tally.specs.Mirror.Lines.{nothing, next, bad_line, long_line, good_line, met_of, length_of, counted, sized, based, masked, registers_sized}
use Rattle.table_frames.specs.Mirror.Repeated.{variable_read, predicate_sized, predicate_count, predicate_read, surface_read}
use Rattle.once_frames.specs.Mirror.Once.{content_read, memory_read, mask_read, register_size_read, once_read}
use Rattle.frames.specs.Mirror.Frames.{frame_read, line_read}
use Rattle.tally.specs.Mirror.Verdicts.{verdict, verdict_of, taint_length}
use Rattle.line_blocks.specs.LinesOf.{lines_from, lines_of}
use Rattle.feeding.specs.Mirror.Text.{any_line_read, lines_read, text_read}

-- small buffers of zeros, as the caller has them: 32 bytes for registers and kernel, two variables, one predicate, one surface of 4 bytes
abbrev zeros : Reading
zeros =
    reading nothing
    (contents (replicate 32 0) (replicate 4 0) (replicate 32 0) (replicate 32 0) (replicate 4 0) (replicate 4 0))
    (tables (replicate 2 0) (replicate 2 0) (replicate 2 0) (replicate 1 0) (replicate 1 0) (replicate 4 0) (replicate 1 0))

record Row : Type 0 where
  text : List ℕ
  number : ℕ
  position : ℕ

abbrev row : List ℕ → ℕ → ℕ → Row
row text number position = record { text = text; number = number; position = position }

-- texts with lines of at most 40 characters, and what they come to
abbrev rows : List Row
rows =
    -- the empty input
    row ([]) 0 0
    -- a bare kind, no 0x0a
    ∷ row (48 ∷ 49 ∷ []) 0 0
    -- a lone 0x0a
    ∷ row (10 ∷ []) 14 1
    -- an empty second line
    ∷ row (48 ∷ 49 ∷ 10 ∷ 10 ∷ []) 14 2
    -- the second 07
    ∷ row (48 ∷ 55 ∷ 10 ∷ 48 ∷ 55 ∷ []) 14 2
    -- an odd number of digits
    ∷ row (48 ∷ 49 ∷ 10 ∷ 48 ∷ 49 ∷ 48 ∷ []) 14 2
    -- upper case
    ∷ row (48 ∷ 65 ∷ 10 ∷ []) 14 1
    -- g
    ∷ row (48 ∷ 103 ∷ []) 14 1
    -- a carriage return
    ∷ row (48 ∷ 49 ∷ 13 ∷ 10 ∷ []) 14 1
    -- kind 0c
    ∷ row (48 ∷ 99 ∷ []) 14 1
    -- kind 00
    ∷ row (48 ∷ 48 ∷ []) 14 1
    -- a variable of four bytes
    ∷ row (48 ∷ 50 ∷ 48 ∷ 50 ∷ 48 ∷ 48 ∷ 48 ∷ 48 ∷ 48 ∷ 56 ∷ 10 ∷ []) 14 1
    -- a predicate of three bytes
    ∷ row (48 ∷ 51 ∷ 48 ∷ 49 ∷ 48 ∷ 48 ∷ 48 ∷ 48 ∷ []) 14 1
    -- a predicate with its count
    ∷ row (48 ∷ 51 ∷ 102 ∷ 102 ∷ 102 ∷ 102 ∷ 102 ∷ 102 ∷ 102 ∷ 102 ∷ 50 ∷ 48 ∷ []) 0 0
    -- a predicate of two bytes
    ∷ row (48 ∷ 51 ∷ 102 ∷ 102 ∷ 102 ∷ 102 ∷ []) 14 1
    -- of six bytes
    ∷ row (48 ∷ 51 ∷ 102 ∷ 102 ∷ 102 ∷ 102 ∷ 102 ∷ 102 ∷ 102 ∷ 102 ∷ 48 ∷ 56 ∷ 48 ∷ 48 ∷ []) 14 1
    -- a second predicate
    ∷ row (48 ∷ 51 ∷ 102 ∷ 102 ∷ 48 ∷ 48 ∷ 48 ∷ 48 ∷ 48 ∷ 48 ∷ 10 ∷ 48 ∷ 51 ∷ 102 ∷ 102 ∷ 48 ∷ 48 ∷ 48 ∷ 48 ∷ 48 ∷ 48 ∷ 48 ∷ 56 ∷ []) 13 0
    -- EM of five bytes
    ∷ row (48 ∷ 54 ∷ 48 ∷ 49 ∷ 48 ∷ 48 ∷ 48 ∷ 48 ∷ 48 ∷ 48 ∷ 48 ∷ 48 ∷ []) 14 1
    -- a base of seven bytes
    ∷ row (48 ∷ 53 ∷ 48 ∷ 48 ∷ 48 ∷ 48 ∷ 48 ∷ 48 ∷ 48 ∷ 48 ∷ 48 ∷ 48 ∷ 48 ∷ 48 ∷ 48 ∷ 48 ∷ []) 14 1
    -- a base and no memory
    ∷ row (48 ∷ 53 ∷ 48 ∷ 48 ∷ 48 ∷ 48 ∷ 48 ∷ 48 ∷ 48 ∷ 48 ∷ 48 ∷ 48 ∷ 48 ∷ 48 ∷ 48 ∷ 48 ∷ 48 ∷ 48 ∷ []) 0 0
    -- a register size without its byte
    ∷ row (48 ∷ 98 ∷ []) 14 1
    -- of two bytes
    ∷ row (48 ∷ 98 ∷ 52 ∷ 48 ∷ 48 ∷ 48 ∷ []) 14 1
    -- a second one
    ∷ row (48 ∷ 98 ∷ 50 ∷ 48 ∷ 10 ∷ 48 ∷ 98 ∷ 52 ∷ 48 ∷ []) 14 2
    -- one that no card has, which the run judges
    ∷ row (48 ∷ 98 ∷ 51 ∷ 48 ∷ []) 0 0
    -- and a bad line behind it
    ∷ row (48 ∷ 98 ∷ 51 ∷ 48 ∷ 10 ∷ 122 ∷ 122 ∷ []) 14 2
    -- a third variable
    ∷ row (48 ∷ 50 ∷ 48 ∷ 50 ∷ 48 ∷ 48 ∷ 48 ∷ 48 ∷ 48 ∷ 56 ∷ 48 ∷ 48 ∷ 10 ∷ 48 ∷ 50 ∷ 48 ∷ 50 ∷ 48 ∷ 48 ∷ 48 ∷ 48 ∷ 48 ∷ 56 ∷ 48 ∷ 48 ∷ 10 ∷ 48 ∷ 50 ∷ 48 ∷ 50 ∷ 48 ∷ 48 ∷ 48 ∷ 48 ∷ 48 ∷ 56 ∷ 48 ∷ 48 ∷ 10 ∷ []) 13 0
    -- and a bad line behind it
    ∷ row (48 ∷ 50 ∷ 48 ∷ 50 ∷ 48 ∷ 48 ∷ 48 ∷ 48 ∷ 48 ∷ 56 ∷ 48 ∷ 48 ∷ 10 ∷ 48 ∷ 50 ∷ 48 ∷ 50 ∷ 48 ∷ 48 ∷ 48 ∷ 48 ∷ 48 ∷ 56 ∷ 48 ∷ 48 ∷ 10 ∷ 48 ∷ 50 ∷ 48 ∷ 50 ∷ 48 ∷ 48 ∷ 48 ∷ 48 ∷ 48 ∷ 56 ∷ 48 ∷ 48 ∷ 10 ∷ 120 ∷ []) 14 4
    -- a second surface
    ∷ row (48 ∷ 52 ∷ 48 ∷ 49 ∷ 10 ∷ 48 ∷ 52 ∷ 48 ∷ 50 ∷ []) 13 0
    -- a surface of five bytes
    ∷ row (48 ∷ 52 ∷ 48 ∷ 49 ∷ 48 ∷ 50 ∷ 48 ∷ 51 ∷ 48 ∷ 52 ∷ 48 ∷ 53 ∷ []) 13 0
    -- memory of five bytes
    ∷ row (48 ∷ 53 ∷ 48 ∷ 48 ∷ 48 ∷ 48 ∷ 48 ∷ 48 ∷ 48 ∷ 48 ∷ 48 ∷ 48 ∷ 48 ∷ 48 ∷ 48 ∷ 48 ∷ 48 ∷ 48 ∷ 48 ∷ 49 ∷ 48 ∷ 50 ∷ 48 ∷ 51 ∷ 48 ∷ 52 ∷ 48 ∷ 53 ∷ []) 13 0
    -- 41 characters
    ∷ row (48 ∷ 48 ∷ 48 ∷ 48 ∷ 48 ∷ 48 ∷ 48 ∷ 48 ∷ 48 ∷ 48 ∷ 48 ∷ 48 ∷ 48 ∷ 48 ∷ 48 ∷ 48 ∷ 48 ∷ 48 ∷ 48 ∷ 48 ∷ 48 ∷ 48 ∷ 48 ∷ 48 ∷ 48 ∷ 48 ∷ 48 ∷ 48 ∷ 48 ∷ 48 ∷ 48 ∷ 48 ∷ 48 ∷ 48 ∷ 48 ∷ 48 ∷ 48 ∷ 48 ∷ 48 ∷ 48 ∷ 48 ∷ []) 14 1
    -- 40 characters that do not fit the memory buffer
    ∷ row (48 ∷ 53 ∷ 48 ∷ 48 ∷ 48 ∷ 48 ∷ 48 ∷ 48 ∷ 48 ∷ 48 ∷ 48 ∷ 48 ∷ 48 ∷ 48 ∷ 48 ∷ 48 ∷ 48 ∷ 48 ∷ 48 ∷ 48 ∷ 48 ∷ 48 ∷ 48 ∷ 48 ∷ 48 ∷ 48 ∷ 48 ∷ 48 ∷ 48 ∷ 48 ∷ 48 ∷ 48 ∷ 48 ∷ 48 ∷ 48 ∷ 48 ∷ 48 ∷ 48 ∷ 48 ∷ 48 ∷ []) 13 0
    ∷ []

abbrev Holds : Row → Type 0
Holds w = verdict_of (text_read 40 w.text zeros).case ≡ verdict w.number w.position

abbrev All : List Row → Type 0
All [] = Unit
All (w ∷ ws) = Holds w × All ws

verdicts : All rows
unfolding number_at is_decimal is_letter is_digit digit_of all_digits is_hex hex_bytes placed fits stored nothing next bad_line long_line good_line met_of length_of counted sized based masked registers_sized variable_read predicate_sized predicate_count predicate_read surface_read content_read memory_read mask_read register_size_read once_read frame_read line_read lines_from lines_of any_line_read lines_read text_read verdict_of
verdicts = (refl, (refl, (refl, (refl, (refl, (refl, (refl, (refl, (refl, (refl, (refl, (refl, (refl, (refl, (refl, (refl, (refl, (refl, (refl, (refl, (refl, (refl, (refl, (refl, (refl, (refl, (refl, (refl, (refl, (refl, (refl, (refl, tt))))))))))))))))))))))))))))))))

-- a taint frame that is there has its own length, an empty one too; an absent one has the buffer's
taint-empty : taint_length 8 1 (text_read 40 (48 ∷ 49 ∷ 48 ∷ 50 ∷ 48 ∷ 51 ∷ 10 ∷ 48 ∷ 56 ∷ []) zeros).case ≡ 0
unfolding number_at is_decimal is_letter is_digit digit_of all_digits is_hex hex_bytes placed fits stored nothing next bad_line long_line good_line met_of length_of counted sized based masked registers_sized variable_read predicate_sized predicate_count predicate_read surface_read content_read memory_read mask_read register_size_read once_read frame_read line_read lines_from lines_of any_line_read lines_read text_read verdict_of taint_length
taint-empty = refl

taint-absent : taint_length 8 1 (text_read 40 (48 ∷ 49 ∷ 48 ∷ 50 ∷ 48 ∷ 51 ∷ []) zeros).case ≡ 2
unfolding number_at is_decimal is_letter is_digit digit_of all_digits is_hex hex_bytes placed fits stored nothing next bad_line long_line good_line met_of length_of counted sized based masked registers_sized variable_read predicate_sized predicate_count predicate_read surface_read content_read memory_read mask_read register_size_read once_read frame_read line_read lines_from lines_of any_line_read lines_read text_read verdict_of taint_length
taint-absent = refl

-- "an old four-byte frame means 32" (document 02, request 3); a count byte is stored as it stands
old-count : (text_read 40 (48 ∷ 51 ∷ 102 ∷ 102 ∷ 48 ∷ 48 ∷ 48 ∷ 48 ∷ 48 ∷ 48 ∷ []) zeros).tables.predicate_counts ≡ 32 ∷ []
unfolding number_at is_decimal is_letter is_digit digit_of all_digits is_hex hex_bytes placed fits stored nothing next bad_line long_line good_line met_of length_of counted sized based masked registers_sized variable_read predicate_sized predicate_count predicate_read surface_read content_read memory_read mask_read register_size_read once_read frame_read line_read lines_from lines_of any_line_read lines_read text_read
old-count = refl

own-count : (text_read 40 (48 ∷ 51 ∷ 102 ∷ 102 ∷ 48 ∷ 48 ∷ 48 ∷ 48 ∷ 48 ∷ 48 ∷ 48 ∷ 56 ∷ []) zeros).tables.predicate_counts ≡ 8 ∷ []
unfolding number_at is_decimal is_letter is_digit digit_of all_digits is_hex hex_bytes placed fits stored nothing next bad_line long_line good_line met_of length_of counted sized based masked registers_sized variable_read predicate_sized predicate_count predicate_read surface_read content_read memory_read mask_read register_size_read once_read frame_read line_read lines_from lines_of any_line_read lines_read text_read
own-count = refl

bad-count : (text_read 40 (48 ∷ 51 ∷ 102 ∷ 102 ∷ 102 ∷ 102 ∷ 102 ∷ 102 ∷ 102 ∷ 102 ∷ 48 ∷ 48 ∷ []) zeros).tables.predicate_counts ≡ 0 ∷ []
unfolding number_at is_decimal is_letter is_digit digit_of all_digits is_hex hex_bytes placed fits stored nothing next bad_line long_line good_line met_of length_of counted sized based masked registers_sized variable_read predicate_sized predicate_count predicate_read surface_read content_read memory_read mask_read register_size_read once_read frame_read line_read lines_from lines_of any_line_read lines_read text_read
bad-count = refl

-- "A frame 0b with one byte, 20 or 40 in hex, picks the size; absent means 32" (document 02, request 5); any byte is stored as it stands
no_size : (text_read 40 [] zeros).case.settings.register_size ≡ 32
unfolding number_at is_decimal is_letter is_digit digit_of all_digits is_hex hex_bytes placed fits stored nothing next bad_line long_line good_line met_of length_of counted sized based masked registers_sized variable_read predicate_sized predicate_count predicate_read surface_read content_read memory_read mask_read register_size_read once_read frame_read line_read lines_from lines_of any_line_read lines_read text_read
no_size = refl

own-size : (text_read 40 (48 ∷ 98 ∷ 52 ∷ 48 ∷ []) zeros).case.settings.register_size ≡ 64
unfolding number_at is_decimal is_letter is_digit digit_of all_digits is_hex hex_bytes placed fits stored nothing next bad_line long_line good_line met_of length_of counted sized based masked registers_sized variable_read predicate_sized predicate_count predicate_read surface_read content_read memory_read mask_read register_size_read once_read frame_read line_read lines_from lines_of any_line_read lines_read text_read
own-size = refl

odd-size : (text_read 40 (48 ∷ 98 ∷ 51 ∷ 48 ∷ []) zeros).case.settings.register_size ≡ 48
unfolding number_at is_decimal is_letter is_digit digit_of all_digits is_hex hex_bytes placed fits stored nothing next bad_line long_line good_line met_of length_of counted sized based masked registers_sized variable_read predicate_sized predicate_count predicate_read surface_read content_read memory_read mask_read register_size_read once_read frame_read line_read lines_from lines_of any_line_read lines_read text_read
odd-size = refl
