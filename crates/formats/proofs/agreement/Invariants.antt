use Rattle.std.proofs.Common.{◌≡◌, ◌+◌, ◌-◌, ◌≤◌, length, drop}
use Rattle.formats.specs.Mirror.Scan.{common, word_of}
use Rattle.formats.proofs.agreement.Given as goal

abbrev pub invariant-loop-i : goal.invariant-loop-i
invariant-loop-i l =
    (l.i - l.at + common (drop l.i l.text) (word_of (drop l.j l.table)) ≡ common (drop l.at l.text) (word_of (drop l.from l.table))) × (l.at ≤ l.i)

abbrev pub decreases-loop-i : goal.decreases-loop-i
decreases-loop-i l = length l.text - l.i
