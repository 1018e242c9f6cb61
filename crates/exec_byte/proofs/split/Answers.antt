-- `exec_byte::split` meets its contract: it takes the table's entry apart.
use Rattle.std.proofs.Common.{◌∙◌, ap}
use Rattle.exec_byte.specs.Mirror.Entries.{exec_coded}
use Rattle.exec_byte.proofs.ExecTable.{uncoded}
use Rattle.exec_byte.proofs.split.Goals as goal

pub returns : goal.returns
returns c = ap exec_coded c.entry-code.ensures ∙ uncoded _
