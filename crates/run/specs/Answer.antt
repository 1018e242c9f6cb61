-- What a run gives back, in numbers.
use Rattle.std.specs.Prelude.{ℕ, Option, None, Some}
use Rattle.refusal.specs.declared.Detail.{Detail}
use Rattle.refusal.specs.declared.Detail.TheVariants as detail
use Rattle.refusal.specs.declared.Refusal.{Refusal}
use Rattle.refusal.specs.Numbers.{number_of, detail_of}
use Rattle.run.specs.declared.Answer as given

-- the number, how many instructions were completed, the byte position of the refused one or of the end, and what the number tells
pub record Answer : Type 0 where
  pub number : ℕ
  pub completed : ℕ
  pub position : ℕ
  pub detail : Detail

-- of what the code gives back: 0, or the refusal's number and what that tells
abbrev pub number_told : Option Refusal → ℕ
number_told None = 0
number_told (Some r) = number_of r

abbrev pub detail_told : Option Refusal → Detail
detail_told None = detail.None
detail_told (Some r) = detail_of r

abbrev pub answer_of : given.Answer → Answer
answer_of a =
    record { number = number_told a.refusal; completed = a.completed; position = a.position; detail = detail_told a.refusal }
