-- Texts written at the edges: the digits of numbers, and a text that does not fit.
use mathlib.Core.Path.{◌≡◌, refl}
use Rattle.hex_text.specs.Digits.{character_of}
use Rattle.hex_text.specs.Storing.{placed}
use Rattle.formats.specs.Text.{text}
use Rattle.formats.specs.Numerals.{digits, digits_of}
use Rattle.format_writers.specs.Writing.{within, wrote, written}

written-numbers : (digits_of 16 48879 ≡ text "beef") × (digits_of 10 409 ≡ text "409") × (digits_of 10 0 ≡ text "0")
unfolding digits character_of
written-numbers = (refl, refl, refl)

-- what does not fit is lost, and the place is the buffer's end
no_room : (written (text ".....") 1 (text "beef") ≡ wrote 5 (text ".beef")) × (written (text ".....") 3 (text "beef") ≡ wrote 5 (text "...be")) × (written (text ".....") 9 (text "beef") ≡ wrote 5 (text "....."))
unfolding written within placed
no_room = (refl, refl, refl)
