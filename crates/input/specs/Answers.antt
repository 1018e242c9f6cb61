-- What a read answers. Of `Read::read`: an error for a read that failed, 0 at the end of the input, and otherwise how many bytes were put at the
-- block's start.
use Rattle.std.specs.Prelude.{ℕ, zero, suc, Bool, true, false, Result, Ok, Err}
use Rattle.std.specs.declared.io.Error.{Error}
use Rattle.input.specs.declared.Answer.{Answer}
use Rattle.input.specs.declared.Answer.TheVariants.{Bytes, End, Failed}

unfoldable pub answer_of : Result ℕ Error → Answer
answer_of (Err e) = Failed
answer_of (Ok zero) = End
answer_of (Ok (suc n)) = Bytes (suc n)

-- by what a read answers
abbrev pub on_answer {ℓ} : {X : Type ℓ} → Answer → (ℕ → X) → X → X → X
on_answer (Bytes n) more end failed = more n
on_answer End more end failed = end
on_answer Failed more end failed = failed

-- whether the read gave bytes
unfoldable pub gave_bytes : Result ℕ Error → Bool
gave_bytes got = on_answer (answer_of got) (λ n. true) false false

-- whether it met the input's end; a failure is not the end
unfoldable pub met_end : Result ℕ Error → Bool
met_end got = on_answer (answer_of got) (λ n. false) true false
