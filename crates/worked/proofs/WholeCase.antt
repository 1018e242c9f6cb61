-- Document 01's whole case, input then output: computed from the definitions.
use mathlib.Core.Path.{◌≡◌, refl}
use mathlib.Core.List.{◌++◌, flatten}
use Rattle.little_endian.specs.LittleEndian.{bytes_of}
use Rattle.hex_text.specs.Digits.{is_decimal, is_letter, is_digit, digit_of, all_digits, character_of}
use Rattle.hex_text.specs.Bytes.{is_hex, hex_bytes, hex_of}
use Rattle.line_blocks.specs.LinesOf.{lines_from, lines_of}
use Rattle.output.specs.Output.{line_of, answer_line, content_line, memory_line, buffer_lines, output_bytes}
use Rattle.answering.specs.Outcome.{outcome_output}
use Rattle.case_file.specs.Frames.{of_kind, first_of}
use Rattle.case_file.specs.BadLine.{content_good, repeats, frame_good, file_line_good, first_bad}
use Rattle.case_file.specs.Case.{type_of, start_of, count_of, dword_of, predicate_count_of, base_of, memory_of, register_size_of, case_setup, marks_of, case_state}
use Rattle.case_file.specs.Output.{frames_output, position_of, answered, case_file_output}
use Rattle.worked.specs.Case.{hex}
use Rattle.worked.proofs.Opened.{opened}

pub whole-case :
    case_file_output
    (line_of (hex 33 0x010100020003000400050006000700080000000000000000000000000000000000)
    ++ line_of (hex 6 0x020200000800)
    ++ line_of (hex 6 0x020210000800)
    ++ line_of (hex 5 0x060f000000)
    ++ line_of (hex 25 0x07240300000001000000000200000000005502050201000000)
    ++ line_of (hex 33 0x080000010000000000000000000000000000000000000000000000000000000000))
    ≡ line_of (hex 8 0x4000010018000000)
    ++ line_of (hex 33 0x010100020003000400050006000700080002000400060008000000000000000000)
    ++ line_of (hex 9 0x050000000000000000)
    ++ line_of (hex 33 0x080000010000000000000000000000000000000101000000000000000000000000)
    ++ line_of (hex 1 0x0a)
unfolding opened hex bytes_of is_decimal is_letter is_digit digit_of all_digits character_of is_hex hex_bytes hex_of lines_from lines_of line_of answer_line content_line memory_line buffer_lines output_bytes outcome_output of_kind first_of flatten content_good repeats frame_good file_line_good first_bad type_of start_of count_of dword_of predicate_count_of base_of memory_of register_size_of case_setup marks_of case_state frames_output position_of answered case_file_output
whole-case = refl
