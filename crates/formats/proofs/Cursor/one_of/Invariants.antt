use Rattle.std.proofs.Common.{◌≡◌, ◌-◌, ◌≤◌, length, drop}
use Rattle.formats.specs.Words.{words}
use Rattle.formats.specs.Mirror.Scan.{scan, no_word}
use Rattle.formats.proofs.Cursor.one_of.Given as goal

abbrev pub invariant-loop-from : goal.invariant-loop-from
invariant-loop-from l = (scan (words (drop l.from l.table)) (drop l.at l.text) l.word l.best ≡ scan (words l.table) (drop l.at l.text) 0 no_word) × (l.word ≤ l.from)

abbrev pub decreases-loop-from : goal.decreases-loop-from
decreases-loop-from l = length l.table - l.from
