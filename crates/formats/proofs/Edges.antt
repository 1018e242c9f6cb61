-- Texts at the edges: words with a common start, numbers at the ends of their range.
use mathlib.Core.Path.{◌≡◌, refl}
use Prim.Native.Nat.{ℕ}
use Prim.Native.String.{String}
use Rattle.hex_text.specs.Digits.{is_decimal, is_letter}
use Rattle.formats.specs.Text.{text}
use Rattle.formats.specs.Format.{Out, got, stop, pair, through}
use Rattle.formats.specs.Words.{words, one_of, table, before, after}
use Rattle.formats.specs.Numbers.{number}
use Rattle.formats.specs.Whole.{whole}
use Rattle.formats.specs.Mirror.Scan.{common, better, scan, chosen, word_in}
use Rattle.formats.specs.Mirror.Digits.{value_of, goes_on, more_digits, begins, number_in}

-- ---- words

unfoldable word : String → String → Out ℕ
unfolding words one_of word_in scan better chosen common
word p t = (table (text p)).read (text t) 0

-- the longest word that stands there, not the first
longest-word : (word "send|sendc|" "sendc " ≡ got 1 5) × (word "send|sendc|" "send " ≡ got 0 4)
unfolding word
longest-word = (refl, refl)

-- a word that is only begun is none, even where a shorter one stands
begun-words : (word "a|abcd|" "abcx" ≡ stop 3) × (word "1) |16) |" "16" ≡ stop 2) × (word "1) |16) |" "" ≡ stop 0)
unfolding word
begun-words = (refl, refl, refl)

-- the empty word stands where no other begins
empty-word : (word "|_NM|" ",8" ≡ got 0 0) × (word "|_NM|" "_NM," ≡ got 1 3) × (word "|_NM|" "_N," ≡ stop 2)
unfolding word
empty-word = (refl, refl, refl)

-- a bar in the text is no character of a word
bars : (word "a|b|" "a|" ≡ got 0 1) × (word "a|b|" "|" ≡ stop 0)
unfolding word
bars = (refl, refl)

-- ---- numbers

unfoldable numeral : ℕ → ℕ → ℕ → String → Out ℕ
unfolding number number_in begins goes_on more_digits value_of is_decimal is_letter
numeral b low high t = (number b low high).read (text t) 0

-- the ends of a range; one past it, the number ends before the digit that takes it out
range-ends : (numeral 10 0 4095 "4095)" ≡ got 4095 4) × (numeral 10 0 4095 "4096)" ≡ got 409 3) × (numeral 10 0 4095 "0)" ≡ got 0 1) × (numeral 10 1 8 "9" ≡ stop 0) × (numeral 10 1 15 "0" ≡ stop 0)
unfolding numeral
range-ends = (refl, refl, refl, refl, refl)

largest-number : numeral 16 0 18446744073709551615 "ffffffffffffffff0" ≡ got 18446744073709551615 16
unfolding numeral
largest-number = refl

-- no leading zero, no capital, no number without a digit
no-numbers : (numeral 10 0 4095 "07" ≡ got 0 1) × (numeral 16 0 255 "A" ≡ stop 0) × (numeral 10 0 255 "a" ≡ stop 0) × (numeral 10 0 255 "" ≡ stop 0)
unfolding numeral
no-numbers = (refl, refl, refl, refl)

-- ---- a whole text

-- two numbers, the second at most the first
unfoldable range : String → Out (ℕ × ℕ)
unfolding whole pair through before after number number_in begins goes_on more_digits value_of is_decimal is_letter words one_of word_in scan better chosen common
range t = whole (pair (before (text "(|") (after (number 10 0 255) (text ",|"))) (λ n. after (number 10 0 n) (text ")|"))) (text t)

ranges : (range "(255,16)" ≡ got (255, 16) 8) × (range "(15,16)" ≡ stop 5) × (range "(256,1)" ≡ stop 3) × (range "(1,0) " ≡ stop 5) × (range "(1," ≡ stop 3)
unfolding range
ranges = (refl, refl, refl, refl, refl)
