-- Lines of each form, computed.
use mathlib.Core.Path.{◌≡◌, refl}
use mathlib.Core.List.{[], ◌∷◌, ◌++◌}
use Rattle.hex_text.specs.Digits.{character_of}
use Rattle.formats.specs.Text.{text}
use Rattle.formats.specs.Numerals.{digits}
use Rattle.refusal.specs.declared.Detail.TheVariants as detail
use Rattle.verdict_line.specs.VerdictLine.{detail_text, verdict_line}

written-lines :
    (verdict_line 0 1 24 detail.None ≡ text "0 1 24" ++ (10 ∷ []))
    × (verdict_line 23 1 24 (detail.Operand 1) ≡ text "23 1 24 operand 1" ++ (10 ∷ []))
    × (verdict_line 12 0 0 (detail.Pair 3 15) ≡ text "12 0 0 channel 3 lane 15" ++ (10 ∷ []))
unfolding verdict_line detail_text digits character_of
written-lines = (refl, refl, refl)
