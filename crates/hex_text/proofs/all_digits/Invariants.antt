use Rattle.std.proofs.Common.{◌≡◌, take}
use Rattle.hex_text.specs.Digits.{all_digits}
use Rattle.hex_text.proofs.all_digits.Given as goal

abbrev pub invariant-loop-character : goal.invariant-loop-character
invariant-loop-character l = l.all ≡ all_digits (take l.character-index l.line)
