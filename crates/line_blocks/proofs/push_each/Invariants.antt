use Rattle.std.proofs.Common.{◌≡◌, take}
use Rattle.line_blocks.specs.Mirror.Rows.{row, all_pushed}
use Rattle.line_blocks.proofs.push_each.Given as goal

abbrev pub invariant-loop-byte : goal.invariant-loop-byte
invariant-loop-byte l = row l.line l.begun.used l.begun.long ≡ all_pushed (take l.byte-index l.characters) (row l.fn.line l.fn.begun.used l.fn.begun.long)
