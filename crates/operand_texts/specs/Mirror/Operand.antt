-- The text of a source or a scalar, `v0(0,0)<8;8,1>` or `0x1:uw`, and of a destination, `v1(0,0)<1>`.
use Rattle.std.specs.Prelude.{ℕ, List, Bool, false, cond, eqb}
use Rattle.formats.specs.Text.{text}
use Rattle.formats.specs.Format.{Format, pair, through}
use Rattle.formats.specs.Words.{table, before}
use Rattle.operand_fields.specs.declared.General.{General}
use Rattle.operand_fields.specs.declared.Immediate.{Immediate}
use Rattle.operand_fields.specs.declared.Operand.{Operand}
use Rattle.operand_fields.specs.declared.Operand.TheVariants as operand
use Rattle.text_parts.specs.Mirror.Immediate.{immediate_fits, immediate}
use Rattle.operand_texts.specs.Mirror.Region.{source_region, destination_region}
use Rattle.operand_texts.specs.Mirror.General.{general_fits, general}

-- how each form begins
abbrev pub forms : List ℕ
forms = text "v|0x|"

unfoldable pub form_of : Operand → ℕ
form_of (operand.General g) = 0
form_of (operand.Immediate i) = 1

-- the operand as this form has it; one of another form is zeros, which are never printed
unfoldable pub as_general : Operand → General
as_general (operand.General g) = g
as_general (operand.Immediate i) = record { index = 0; row = 0; column = 0; region = 0 }

unfoldable pub as_immediate : Operand → Immediate
as_immediate (operand.General g) = record { code = 0; low = 0; high = 0 }
as_immediate (operand.Immediate i) = i

unfoldable pub general_operand_fits : Operand → Bool
general_operand_fits (operand.General g) = general_fits g
general_operand_fits (operand.Immediate i) = false

unfoldable pub immediate_operand_fits : Operand → Bool
immediate_operand_fits (operand.General g) = false
immediate_operand_fits (operand.Immediate i) = immediate_fits i

unfoldable pub operand_fits : Operand → Bool
operand_fits (operand.General g) = general_fits g
operand_fits (operand.Immediate i) = immediate_fits i

unfoldable pub general_operand : Format ℕ → Format Operand
general_operand region = through operand.General as_general general_operand_fits (general region)

unfoldable pub immediate_operand : Format Operand
immediate_operand = through operand.Immediate as_immediate immediate_operand_fits immediate

-- the operand behind the beginning of its form
unfoldable pub formed : ℕ → Format Operand
formed form = cond (eqb form 0) (general_operand source_region) immediate_operand

unfoldable pub source : Format Operand
source = through (λ v. v.1) (λ o. (form_of o, o)) operand_fits (pair (table forms) formed)

unfoldable pub destination : Format Operand
destination = before (text "v|") (general_operand destination_region)
