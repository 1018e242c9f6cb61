-- The text of a General operand behind its `v`: `300(1,2)<2>`, variable, row, column and region.
use Rattle.std.specs.Prelude.{ℕ, Bool, ◌&&◌, leb}
use Rattle.formats.specs.Text.{text}
use Rattle.formats.specs.Format.{Format, pair, through}
use Rattle.operand_fields.specs.declared.General.{General}
use Rattle.text_parts.specs.Mirror.Fields.{decimal}
use Rattle.operand_texts.specs.Mirror.Region.{region_fits}

abbrev pub general_to : ℕ × (ℕ × (ℕ × ℕ)) → General
general_to v = record { index = v.0; row = v.1.0; column = v.1.1.0; region = v.1.1.1 }

abbrev pub general_from : General → ℕ × (ℕ × (ℕ × ℕ))
general_from g = (g.index, (g.row, (g.column, g.region)))

unfoldable pub general_parts : Format ℕ → Format (ℕ × (ℕ × (ℕ × ℕ)))
general_parts region =
    pair (decimal 0 65535 (text "(|")) (λ _.
    pair (decimal 0 255 (text ",|")) (λ _.
    pair (decimal 0 255 (text ")|")) (λ _.
    region)))

-- index uw, row ub, column ub, and a region that the encoder takes
unfoldable pub general_fits : General → Bool
general_fits g = leb g.index 65535 && (leb g.row 255 && (leb g.column 255 && region_fits g.region))

-- `region` is the format of a source's regions, or of a destination's
unfoldable pub general : Format ℕ → Format General
general region = through general_to general_from general_fits (general_parts region)
