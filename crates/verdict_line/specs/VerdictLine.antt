-- The answer of a run in one line of text: its numbers, and what it tells beside them. Document 02, request 2: "name the operand by its place
-- in field order", "11 and 12 now carry channel and lane of the first offending pair", "The 40 line keeps its form". The line's form is ours.
use Rattle.std.specs.Prelude.{ℕ, List, [], ◌∷◌, ◌++◌}
use Rattle.formats.specs.Text.{text}
use Rattle.formats.specs.Numerals.{digits_of}
use Rattle.refusal.specs.declared.Detail.{Detail}
use Rattle.refusal.specs.declared.Detail.TheVariants as detail

-- ` operand PLACE`, ` channel CHANNEL lane LANE`, or nothing
unfoldable pub detail_text : Detail → List ℕ
detail_text detail.None = []
detail_text (detail.Operand place) = text " operand " ++ digits_of 10 place
detail_text (detail.Pair channel lane) = text " channel " ++ (digits_of 10 channel ++ (text " lane " ++ digits_of 10 lane))

-- `NUMBER COMPLETED POSITION`, the detail, and the line's end
unfoldable pub verdict_line : ℕ → ℕ → ℕ → Detail → List ℕ
verdict_line number completed position told =
    digits_of 10 number ++ (text " " ++ (digits_of 10 completed ++ (text " " ++ (digits_of 10 position ++ (detail_text told ++ (0x0a ∷ []))))))
