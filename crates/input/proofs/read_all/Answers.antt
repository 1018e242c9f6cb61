-- Each read is one call more.
use Rattle.std.proofs.Common.{◌∙◌, rules}
use Rattle.input.proofs.ReadsLaws.{none_read, none_left, none_left_known, call_more, call_last, call_last_known}
use Rattle.input.proofs.read_all.Goals as goal

pub loop-init : goal.loop-init
loop-init g c = record { fed = none_read _ _ _ _ _ c.new-state.ensures; block = search rules; contents = search rules; tables = search rules }

pub returns-then-bytes-eq0-clause-known_bytes : goal.returns-then-bytes-eq0-clause-known_bytes
returns-then-bytes-eq0-clause-known_bytes g c =
    rw c.stopped.ensures.state
    (call_last_known _ _ _ _ c.loop.invariant.fed _ _ _ _ c.read-got.ensures.bound c.read-got.ensures.bytes (c.read-got.auto.buf ∙ c.loop.invariant.block) c.bytes_of-bytes.ensures _ c.if-bytes-eq0.true c.stopped.ensures.end)

pub returns-then-bytes-eq0-clause-some_calls : goal.returns-then-bytes-eq0-clause-some_calls
returns-then-bytes-eq0-clause-some_calls g c =
    rw c.stopped.ensures.state
    (call_last _ _ _ _ c.loop.invariant.fed _ _ _ _ c.read-got.ensures.bound c.read-got.ensures.bytes (c.read-got.auto.buf ∙ c.loop.invariant.block) c.bytes_of-bytes.ensures _ c.if-bytes-eq0.true c.stopped.ensures.end)

pub loop-preserved : goal.loop-preserved
loop-preserved g c = record {
  fed = call_more _ _ _ _ c.loop.invariant.fed _ _ _ _ c.read-got.ensures.bound c.read-got.ensures.bytes (c.read-got.auto.buf ∙ c.loop.invariant.block) c.bytes_of-bytes.ensures _ c.if-bytes-eq0.false c.feed-state.ensures.machine;
  block = c.read-got.auto.buf ∙ c.loop.invariant.block;
  contents = search rules;
  tables = search rules;
}

pub returns-clause-known_bytes : goal.returns-clause-known_bytes
returns-clause-known_bytes g c = none_left_known _ _ _ _ c.loop.invariant.fed

pub returns-clause-some_calls : goal.returns-clause-some_calls
returns-clause-some_calls g c = none_left _ _ _ _ c.loop.invariant.fed
