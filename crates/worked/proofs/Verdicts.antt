-- Whole cases whose verdict names an operand or a pair (document 02, request 2): computed from the definitions.
use mathlib.Core.Path.{◌≡◌, refl}
use mathlib.Core.List.{◌++◌, flatten}
use Rattle.little_endian.specs.LittleEndian.{bytes_of}
use Rattle.hex_text.specs.Digits.{is_decimal, is_letter, is_digit, digit_of, all_digits, character_of}
use Rattle.hex_text.specs.Bytes.{is_hex, hex_bytes, hex_of}
use Rattle.formats.specs.Text.{text}
use Rattle.formats.specs.Numerals.{digits}
use Rattle.line_blocks.specs.LinesOf.{line_end, lines_from, lines_of}
use Rattle.output.specs.Output.{line_of}
use Rattle.verdict_line.specs.VerdictLine.{detail_text, verdict_line}
use Rattle.answering.specs.Outcome.{answer_verdict}
use Rattle.case_file.specs.Frames.{of_kind, first_of}
use Rattle.case_file.specs.BadLine.{content_good, repeats, frame_good, file_line_good, first_bad}
use Rattle.case_file.specs.Case.{type_of, start_of, count_of, dword_of, predicate_count_of, base_of, memory_of, register_size_of, case_setup, marks_of, case_state}
use Rattle.case_file.specs.Output.{position_of}
use Rattle.case_file.specs.Verdict.{judged, case_file_verdict}
use Rattle.worked.specs.Case.{hex}
use Rattle.worked.proofs.Opened.{opened}

-- 23 of the second instruction, place 1
pub region-of-the-second :
    case_file_verdict
    (line_of (hex 33 0x010100020003000400050006000700080000000000000000000000000000000000)
    ++ line_of (hex 6 0x020200000800)
    ++ line_of (hex 6 0x020210000800)
    ++ line_of (hex 5 0x060f000000)
    ++ line_of (hex 49 0x07240300000001000000000200000000005502050201000000240300000001000000000100000000005502050201000000))
    ≡ text "23 1 24 operand 1" ++ line_end
unfolding opened hex bytes_of is_decimal is_letter is_digit digit_of all_digits character_of is_hex hex_bytes hex_of digits lines_from lines_of line_of detail_text verdict_line answer_verdict of_kind first_of flatten content_good repeats frame_good file_line_good first_bad type_of start_of count_of dword_of predicate_count_of base_of memory_of register_size_of case_setup marks_of case_state position_of judged case_file_verdict
region-of-the-second = refl

-- 25, place 1, though the width is over ExecSize
pub scalar-region :
    case_file_verdict
    (line_of (hex 33 0x010000000000000000000000000000000000000000000000000000000000000000)
    ++ line_of (hex 6 0x020000000400)
    ++ line_of (hex 6 0x020010000400)
    ++ line_of (hex 5 0x0411223344)
    ++ line_of (hex 5 0x060f000000)
    ++ line_of (hex 25 0x07780200000002000000000000000055020000000001000000))
    ≡ text "25 0 0 operand 1" ++ line_end
unfolding opened hex bytes_of is_decimal is_letter is_digit digit_of all_digits character_of is_hex hex_bytes hex_of digits lines_from lines_of line_of detail_text verdict_line answer_verdict of_kind first_of flatten content_good repeats frame_good file_line_good first_bad type_of start_of count_of dword_of predicate_count_of base_of memory_of register_size_of case_setup marks_of case_state position_of judged case_file_verdict
scalar-region = refl

-- 12, channel 3, lane 2
pub pair-outside :
    case_file_verdict
    (line_of (hex 65 0x0100000000000000001000000000000000200000000000000000000000000000000000000000000000000000000000000000000000000000000000000000000000)
    ++ line_of (hex 6 0x020b00000800)
    ++ line_of (hex 6 0x020000001000)
    ++ line_of (hex 45 0x050000000000000000000000000000000000000000000000000000000000000000000000000000000000000000)
    ++ line_of (hex 5 0x0607000000)
    ++ line_of (hex 27 0x074e07030000090000050b00000000000000000000000001000000))
    ≡ text "12 0 0 channel 3 lane 2" ++ line_end
unfolding opened hex bytes_of is_decimal is_letter is_digit digit_of all_digits character_of is_hex hex_bytes hex_of digits lines_from lines_of line_of detail_text verdict_line answer_verdict of_kind first_of flatten content_good repeats frame_good file_line_good first_bad type_of start_of count_of dword_of predicate_count_of base_of memory_of register_size_of case_setup marks_of case_state position_of judged case_file_verdict
pair-outside = refl
