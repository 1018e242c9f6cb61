-- Its parts are written one after another.
use Rattle.listing.proofs.StepLaws.{refusal-written}
use Rattle.listing.proofs.write_refusal.Goals as goal

pub returns : goal.returns
returns c = refusal-written _ _ c.word.ensures c.number.ensures c.word-2.ensures c.number-2.ensures c.word-3.ensures
