-- The line buffer has 16,386 bytes, and the other buffers stand as they do before a first line.
use Rattle.std.proofs.Common.{ℕ, ap, ◌∙◌, rules}
use Rattle.std.proofs.Math.ListN.{length-replicate}
use Rattle.tally.specs.Mirror.Lent.{contents_of, tables_of}
use Rattle.tally.specs.Mirror.Reading.{reading}
use Rattle.feeding.specs.declared.State.{State}
use Rattle.feeding.specs.Mirror.Feeding.{machine, finished}
use Rattle.answering.specs.Mirror.Puts.{Puts}
use Rattle.answered_input.specs.Results.{count_of}
use Rattle.answered_input.specs.Mirror.Ended.{ended_output}
use Rattle.answered_input.proofs.AnswersLaws.{input-answered, input-known, input-some, ok-ended}
use Rattle.answered_input.proofs.answer_input.Goals as goal

pub returns-clause-some_calls : goal.returns-clause-some_calls
returns-clause-some_calls g c =
    let e = c.finish-state.ensures.machine ∙ ap (λ (s : State). finished (machine c.read_all-read.new.line s (contents_of c.read_all-read.new.contents) (tables_of c.read_all-read.new.tables))) c.stopped_at-stopped.ensures in
    let p : Puts (ended_output c.is_ok.result c.args.form (reading c.finish-state.result.case (contents_of c.finish-state.new.contents) (tables_of c.finish-state.new.tables))) c.args.out.now c.answer_ended.new.out (count_of c.answer_ended.result) = search rules in
    input-answered _ _ _ _ _ _ _ _ _ (length-replicate {A = ℕ} 16386 0) c.read_all-read.ensures.some_calls e p (c.is_ok.ensures.value ∙ ok-ended c.read_all-read.result)

pub returns-clause-known_bytes : goal.returns-clause-known_bytes
returns-clause-known_bytes g c =
    let e = c.finish-state.ensures.machine ∙ ap (λ (s : State). finished (machine c.read_all-read.new.line s (contents_of c.read_all-read.new.contents) (tables_of c.read_all-read.new.tables))) c.stopped_at-stopped.ensures in
    let p : Puts (ended_output c.is_ok.result c.args.form (reading c.finish-state.result.case (contents_of c.finish-state.new.contents) (tables_of c.finish-state.new.tables))) c.args.out.now c.answer_ended.new.out (count_of c.answer_ended.result) = search rules in
    input-known _ _ _ _ _ _ _ _ _ _ _ (length-replicate {A = ℕ} 16386 0) c.read_all-read.ensures.known_bytes e p (c.is_ok.ensures.value ∙ ok-ended c.read_all-read.result)

pub returns-clause-never_none : goal.returns-clause-never_none
returns-clause-never_none g c room =
    let e = c.finish-state.ensures.machine ∙ ap (λ (s : State). finished (machine c.read_all-read.new.line s (contents_of c.read_all-read.new.contents) (tables_of c.read_all-read.new.tables))) c.stopped_at-stopped.ensures in
    let p : Puts (ended_output c.is_ok.result c.args.form (reading c.finish-state.result.case (contents_of c.finish-state.new.contents) (tables_of c.finish-state.new.tables))) c.args.out.now c.answer_ended.new.out (count_of c.answer_ended.result) = search rules in
    input-some _ _ _ _ _ _ _ _ _ (length-replicate {A = ℕ} 16386 0) c.read_all-read.ensures.some_calls e p (c.is_ok.ensures.value ∙ ok-ended c.read_all-read.result) c.answer_ended.ensures.ended room
