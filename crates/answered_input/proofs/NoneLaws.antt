-- Nothing is put out only if the input was not read to its end.
use mathlib.Core.Path.{◌≡◌, refl}
use mathlib.Core.Bool.{Bool, true, false, cond}
use mathlib.Core.List.{List, []}
use Prim.Native.Nat.{ℕ, ◌<◌}
use native.Mathlib.Omega.{arith}
use lib.ListN.{length}
use Rattle.input.specs.Calls.{Call, text_of, ended_by}
use Rattle.answering.specs.declared.Form.{Form}
use Rattle.answering.proofs.SizeLaws.{bench-some}
use Rattle.case_file.specs.Forms.{case_file_text}
use Rattle.case_file.proofs.Whole.{case-file-output}
use Rattle.answered_input.specs.Program.{program_output}

module _ (f : Form) where
  pub output-some : (text : List ℕ) → 0 < length (case_file_text f text)
  output-some text = rw (← case-file-output f text) (bench-some f text)

  pub none-unended : (calls : List Call) → ended_by calls ≡ false → program_output (case_file_text f) calls ≡ []
  unfolding program_output
  none-unended calls h = rw h

  pub unended-none : (calls : List Call) → length (program_output (case_file_text f) calls) ≡ 0 → ended_by calls ≡ false
  unfolding program_output
  unended-none calls = told (ended_by calls)
    where
      told : (b : Bool) → length (cond b (case_file_text f (text_of calls)) []) ≡ 0 → b ≡ false
      told true h = absurd (omega (arith, h, output-some (text_of calls)))
      told false h = refl
