-- One more byte: those below k are as they were, and byte k is read.
use Rattle.std.proofs.Common.{◌≢◌, ◌<◌, length, arith, rules, get_or-set_other, get_or-set_same, below_more}
use Rattle.hex_text.proofs.bytes_at.Goals as goal

pub loop-k-preserved : goal.loop-k-preserved
loop-k-preserved g c = record {
  size = search rules;
  read =
      below_more _ _
      (λ j h. let ne : j ≢ c.loop-k.k = omega arith in rw get_or-set_other (c.loop-k.invariant.read j h))
      (let lt : c.loop-k.k < length c.loop-k.bytes = omega arith in rw get_or-set_same c.byte.ensures);
}
