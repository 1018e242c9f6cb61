-- The parts that stand behind a name are lawful formats.
use mathlib.Core.Path.{◌≡◌, refl}
use Prim.Native.Nat.{ℕ}
use native.Mathlib.Omega.{arith}
use lib.Dec.{leb}
use borrow.Author.Tests.{le-leb}
use Rattle.hex_text.specs.Digits.{is_decimal, is_letter}
use Rattle.formats.specs.Text.{text}
use Rattle.formats.specs.Format.{pair, through}
use Rattle.formats.specs.Words.{before, after}
use Rattle.formats.specs.Numbers.{number}
use Rattle.formats.specs.Mirror.Digits.{is_digit, value_of}
use Rattle.formats.proofs.Law.{Lawful, free}
use Rattle.formats.proofs.Following.{follows-free}
use Rattle.formats.proofs.Combining.{pair-lawful}
use Rattle.formats.proofs.TableTests.{sound, opens, single}
use Rattle.formats.proofs.AroundLaws.{before-lawful, after-lawful}
use Rattle.fields.specs.Rules.{source_count_good}
use Rattle.operand_fields.specs.declared.Raw.{Raw}
use Rattle.operand_fields.specs.declared.Operand.{Operand}
use Rattle.text_parts.specs.Mirror.Fields.{decimal, hexadecimal}
use Rattle.text_parts.specs.Mirror.Raw.{raw}
use Rattle.text_parts.proofs.FieldLaws.{decimal-lawful, hexadecimal-lawful}
use Rattle.text_parts.proofs.RawLaws.{raw-lawful}
use Rattle.operand_texts.specs.Mirror.Operand.{source}
use Rattle.line_parts.specs.Mirror.Parts.{space, scalar_and_raws, scalar_and_raws_fit, surface, message, message_fits}
use Rattle.operand_texts.proofs.OperandLaws.{source-lawful}

-- ---- a scalar and two raw operands

pub scalar-and-raws-lawful : Lawful scalar_and_raws (is_digit 10)
unfolding scalar_and_raws sound single opens is_digit value_of is_decimal is_letter
scalar-and-raws-lawful =
    pair-lawful (after-lawful space refl refl refl source-lawful) (λ _.
    pair-lawful (after-lawful space refl refl refl raw-lawful) (λ _. raw-lawful) follows-free) follows-free

pub scalar-and-raws-good : (v : Operand × (Raw × Raw)) → scalar_and_raws.good v ≡ scalar_and_raws_fit v.0 v.1.0 v.1.1
unfolding scalar_and_raws scalar_and_raws_fit pair through after source raw
scalar-and-raws-good v = refl

-- ---- what a gather and a send have besides

pub surface-lawful : Lawful surface free
unfolding surface sound single opens is_digit value_of is_decimal is_letter
surface-lawful = before-lawful (text "T|") refl refl (decimal-lawful 0 255 space (omega arith) (omega arith) refl refl refl)

pub surface-good : (n : ℕ) → surface.good n ≡ leb n 255
unfolding surface before decimal after through number
surface-good n = rw (le-leb 0 n (omega arith))

pub message-lawful : Lawful message free
unfolding message sound single opens is_digit value_of is_decimal is_letter
message-lawful =
    pair-lawful (hexadecimal-lawful 4294967295 space refl refl refl) (λ _.
    pair-lawful (decimal-lawful 1 15 space (omega arith) (omega arith) refl refl refl) (λ _.
    decimal-lawful 0 16 space (omega arith) (omega arith) refl refl refl) follows-free) follows-free

pub message-good : (v : ℕ × (ℕ × ℕ)) → message.good v ≡ message_fits v.0 v.1.0 v.1.1
unfolding message message_fits source_count_good hexadecimal decimal before after pair through number
message-good v = rw (le-leb 0 v.0 (omega arith), le-leb 0 v.1.1 (omega arith))
