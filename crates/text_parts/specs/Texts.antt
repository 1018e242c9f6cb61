-- The text of each part, as document 02 and the pages write it. Nothing of reading is used here; proofs/PrintLaws.antt says that the formats print these texts.
use Rattle.std.specs.Prelude.{ℕ, ◌+◌, ◌*◌, List, [], ◌++◌, cond, eqb}
use Rattle.formats.specs.Text.{text}
use Rattle.formats.specs.Numerals.{digits_of}
use Rattle.element_types.specs.Types.{UD, D, UW, W, UB, B, F, UQ}
use Rattle.operand_fields.specs.declared.Raw.{Raw}
use Rattle.operand_fields.specs.declared.Immediate.{Immediate}

-- `v1.8`
unfoldable pub raw_text : Raw → List ℕ
raw_text r = text "v" ++ digits_of 10 r.index ++ text "." ++ digits_of 10 r.offset

-- the empty text for a code that is not listed
unfoldable pub type_text : ℕ → List ℕ
type_text code =
    cond (eqb code UD) (text "ud")
    (cond (eqb code D) (text "d")
    (cond (eqb code UW) (text "uw")
    (cond (eqb code W) (text "w")
    (cond (eqb code UB) (text "ub")
    (cond (eqb code B) (text "b")
    (cond (eqb code F) (text "f")
    (cond (eqb code UQ) (text "uq") [])))))))

-- `0x20001:uw`: "the whole stored word", the high one above the low one
unfoldable pub immediate_text : Immediate → List ℕ
immediate_text i = text "0x" ++ digits_of 16 (i.high * 4294967296 + i.low) ++ text ":" ++ type_text i.code
