-- `formats::Cursor::one_of`: the text has as many characters as the longest start that was found.
use Rattle.std.proofs.Common.{sym, ◌∙◌, arith, drop}
use Rattle.formats.specs.Words.{words}
use Rattle.formats.proofs.WordLaws.{scan-inside}
use Rattle.formats.proofs.ScanLaws.{scan-over}
use Rattle.formats.proofs.Cursor.one_of.Goals as goal

pub overflow_add-end : goal.overflow_add-end
overflow_add-end c =
    let a = c.args in
    let p = a.table.now in
    omega (arith, scan-inside (words p) a.text.now a.self.at c.loop-from.best (sym (scan-over p (drop a.self.at a.text.now) c.loop-from.from c.loop-from.word c.loop-from.best c.loop-from-test.false) ∙ c.loop-from.invariant.0))
