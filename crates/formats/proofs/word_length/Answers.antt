-- The place that the search finds, or the length.
use Rattle.formats.proofs.ScanLaws.{word_found}
use Rattle.formats.proofs.word_length.Goals as goal

pub returns : goal.returns
returns c = rw (c.unwrap_or.ensures, c.first_bar.ensures) (word_found c.args.table.now)
