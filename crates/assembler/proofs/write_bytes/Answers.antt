-- One byte more.
use Rattle.assembler.proofs.WritingLaws.{none_written, byte_more}
use Rattle.assembler.proofs.write_bytes.Goals as goal

pub loop-byte-init : goal.loop-byte-init
loop-byte-init c = none_written c.word.ensures

pub loop-byte-preserved : goal.loop-byte-preserved
loop-byte-preserved c = byte_more _ c.loop-byte.byte-index c.loop-byte-test.true c.loop-byte.invariant c.byte.ensures
