-- The text of each part, as document 02 and the pages write it. Nothing of reading is used here; proofs/PrintLaws.antt says that the formats print these texts.
use Rattle.std.specs.Prelude.{ℕ, List, [], ◌++◌, Bool, cond, eqb}
use Rattle.formats.specs.Text.{text}
use Rattle.formats.specs.Numerals.{digits_of}
use Rattle.exec_byte.specs.Exec.{exec_size, mask_number, no_mask}
use Rattle.predicate_field.specs.Predicate.{has_predicate, predicate_id, predicate_combine, predicate_inverse, ANY, ALL}

abbrev pub optional : Bool → List ℕ → List ℕ
optional b t = cond b t []

-- `(!P3.any) `, and nothing for no predicate
unfoldable pub predicate_text : ℕ → List ℕ
predicate_text pred =
    optional (has_predicate pred)
    (text "(" ++ optional (predicate_inverse pred) (text "!") ++ text "P" ++ digits_of 10 (predicate_id pred)
    ++ optional (eqb (predicate_combine pred) ANY) (text ".any") ++ optional (eqb (predicate_combine pred) ALL) (text ".all") ++ text ") ")

-- `(M2_NM,16) `
unfoldable pub exec_text : ℕ → List ℕ
exec_text exec = text "(M" ++ digits_of 10 (mask_number exec) ++ optional (no_mask exec) (text "_NM") ++ text "," ++ digits_of 10 (exec_size exec) ++ text ") "
