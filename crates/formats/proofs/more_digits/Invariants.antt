use Rattle.std.proofs.Common.{◌≡◌, drop}
use Rattle.formats.specs.Mirror.Digits.{more_digits}
use Rattle.formats.proofs.more_digits.Given as goal

abbrev pub invariant-loop-i : goal.invariant-loop-i
invariant-loop-i l = more_digits l.base l.high l.v l.i (drop l.i l.text) ≡ more_digits l.base l.high l.first l.at (drop l.at l.text)
