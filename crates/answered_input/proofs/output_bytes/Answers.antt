-- A buffer with room has the whole output.
use Rattle.std.proofs.Common.{sym, subst, ℕ, List}
use Rattle.case_file.specs.Forms.{case_file_text}
use Rattle.answered_input.specs.Program.{Answers}
use Rattle.answered_input.proofs.AnswersLaws.{err-empty, part-answers, part-known}
use Rattle.answered_input.proofs.output_bytes.Goals as goal

pub returns-in_err-used-clause-some_calls : goal.returns-in_err-used-clause-some_calls
returns-in_err-used-clause-some_calls g c =
    λ room. subst (λ (bytes : List ℕ). Answers (case_file_text c.args.form) bytes) (sym (err-empty _ _ c.from_residual.ensures.1)) (part-answers _ _ _ _ room c.in_err-used.ensures.some_calls)

pub returns-clause-some_calls : goal.returns-clause-some_calls
returns-clause-some_calls g c = λ room. rw c.first.ensures (part-answers _ _ _ _ room c.in_ok-used.ensures.some_calls)

pub returns-clause-known_bytes : goal.returns-clause-known_bytes
returns-clause-known_bytes g c = λ room. rw c.first.ensures (part-known _ _ _ _ room c.in_ok-used.ensures.some_calls _ c.in_ok-used.ensures.known_bytes)
