-- What the number of an instruction tells. Document 02, request 2: 20 to 25 "name the operand", 11 and 12 carry the first offending pair, and no
-- other number tells anything.
use Rattle.std.specs.Prelude.{◌≡◌, ℕ, suc}
use Rattle.refusal.specs.declared.Detail.{Detail}
use Rattle.refusal.specs.declared.Detail.TheVariants as detail
use Rattle.reader.specs.Reply.{refused, got}
use Rattle.decoder.specs.declared.Instruction.{Instruction}
use Rattle.decoder.specs.Decoding.{instruction_at}
use Rattle.plan.specs.Checked.{checked}
use Rattle.plan.specs.Places.{NamesOf}
use Rattle.scatter_effect.specs.Offending.{ScatterTells}
use Rattle.step.specs.State.{Setup, State, register_bytes}
use Rattle.step.specs.FirstFailing.{window}

module _ (x : Setup) (at : ℕ) (s : State) where
  pub data Tells : ℕ → Detail → Type 0 where
    -- decoding's numbers tell nothing
    undecoded : {n : ℕ} → instruction_at x.kernel at ≡ refused n → Tells n detail.None
    -- those of the tests before data name the operand that its region refuses, by its own rule, or none
    tested : {i : Instruction} {next n : ℕ} → instruction_at x.kernel at ≡ got i next → (checked (register_bytes x) x.tables i).number ≡ suc n → NamesOf (register_bytes x) x.tables i (checked (register_bytes x) x.tables i)
        → Tells (suc n) (checked (register_bytes x) x.tables i).detail
    -- those of the tests of data name the first pair, or none
    performed : {i : Instruction} {next n : ℕ} {d : Detail} → instruction_at x.kernel at ≡ got i next → (checked (register_bytes x) x.tables i).number ≡ 0
        → ScatterTells (window x s) x.constants.mask (checked (register_bytes x) x.tables i) s.registers.bytes n d → Tells n d
