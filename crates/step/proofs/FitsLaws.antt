-- The plan of a decoded and checked instruction passes the executors' guards, whatever the tables hold: the sizes of its elements come from
-- the types that its operands may have, its lanes from test 8, those of a scatter from decoding, and its stride from the size of a register, chosen.
use Prim.Native.Nat.{ℕ, ◌/◌, ◌≤◌}
use mathlib.Core.Path.{◌≡◌, sym, ap, subst, ◌∙◌}
use mathlib.Core.Logic.{⊎_elim}
use mathlib.Core.Bool.{true}
use mathlib.Core.List.{List}
use native.Mathlib.Omega.{arith}
use Rattle.std.specs.Prelude.{Result, Ok}
use Rattle.refusal.specs.declared.Refusal.{Refusal}
use Rattle.little_endian.specs.LittleEndian.{Bytes}
use Rattle.reader.specs.declared.Cursor.{Cursor}
use Rattle.reader.specs.Reply.{got, reply}
use Rattle.fields.proofs.ExecGood.{EightOrSixteen}
use Rattle.decoder.specs.declared.Instruction.{Instruction}
use Rattle.decoder.specs.declared.Instruction.TheVariants as instruction
use Rattle.decoder.specs.Decoding.{instruction_at}
use Rattle.decoder.proofs.ScatterLaws.{decoded-scatter}
use Rattle.exec_byte.specs.Exec.{exec_size}
use Rattle.lengths.specs.Lengths.{chosen_size}
use Rattle.tables.specs.Tables.{Tables}
use Rattle.lengths.proofs.Limits.{chosen-either}
use Rattle.plan.specs.declared.Plan as code
use Rattle.plan.specs.Plan.{Plan}
use Rattle.plan.specs.Planned.{plan_of, planned}
use Rattle.plan.specs.Operation.{Operation}
use Rattle.plan.specs.Checked.{checked}
use Rattle.payloads.proofs.ChannelLaws.{stride-at-most}
use Rattle.plan.proofs.InstructionLaws.{plan-keeps}
use Rattle.shl.proofs.SoundLaws as shl
use Rattle.gather.proofs.SoundLaws as gather
use Rattle.scatter.proofs.SoundLaws as scatter
use Rattle.step.specs.Mirror.Fits.{fits_for, Fits}

at-most-sixteen : (lanes : ℕ) → EightOrSixteen lanes → lanes ≤ 16
at-most-sixteen lanes = ⊎_elim (λ e. rw e (omega arith)) (λ e. rw e (omega arith))

fits-as : (o : Operation) (p : Plan) → p.operation ≡ o → fits_for o p ≡ true → fits_for p.operation p ≡ true
fits-as o p is = subst (λ (q : Operation). fits_for q p ≡ true) (sym is)

-- the plan by the size that the code chose
pub plan-chosen : (number size : ℕ) (t : Tables) (i : Instruction) (p : Plan) → size ≡ chosen_size number → p ≡ checked size t i → p ≡ checked (chosen_size number) t i
plan-chosen number size t i p e h = rw (← e) h

module _ (kernel : List ℕ) (number : ℕ) (t : Tables) (at : ℕ) (b : Bytes kernel) where
  decoded-fits : (i : Instruction) (next : ℕ) → instruction_at kernel at ≡ got i next → (checked (chosen_size number) t i).number ≡ 0
      → fits_for (checked (chosen_size number) t i).operation (checked (chosen_size number) t i) ≡ true
  unfolding fits_for
  decoded-fits (instruction.Shl i) next e z =
      let k = plan-keeps (chosen_size number) t (instruction.Shl i) z in
      fits-as _ _ k.operation (shl.sound-fits _ i.control k)
  decoded-fits (instruction.Gather i) next e z =
      let k = plan-keeps (chosen_size number) t (instruction.Gather i) z in
      fits-as _ _ k.operation (gather.sound-fits _ i.control k)
  decoded-fits (instruction.Scatter i) next e z =
      let k = plan-keeps (chosen_size number) t (instruction.Scatter i) z in
      let few = at-most-sixteen (exec_size i.control.exec) (decoded-scatter kernel at i next b e) in
      let near = stride-at-most (chosen_size number) i.control.exec 16 (chosen-either (λ size. size / 4 ≤ 16) (omega arith) (omega arith) number) few in
      fits-as _ _ k.operation (scatter.sound-fits _ i.control _ few near k)
  decoded-fits (instruction.RawSend i) next e z = absurd (plan-keeps (chosen_size number) t (instruction.RawSend i) z)

  pub planned-fits : (i : Instruction) (next : ℕ) → instruction_at kernel at ≡ got i next → Fits (checked (chosen_size number) t i)
  planned-fits i next is = record { when-accepted = decoded-fits i next is }

  -- as the code learns it
  pub told-fits : (d : Result (Instruction × Cursor) Refusal) (i : Instruction) (c : Cursor) (w : Result code.Plan Refusal) (p : code.Plan) → reply d ≡ instruction_at kernel at → d ≡ Ok (i, c) → planned w ≡ checked (chosen_size number) t i → w ≡ Ok p → Fits (plan_of p)
  told-fits d i c w p told is plan accepted =
      subst Fits (sym plan ∙ ap planned accepted) (planned-fits i c.at (sym told ∙ ap reply is))
