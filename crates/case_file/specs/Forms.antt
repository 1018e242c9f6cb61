-- What is written of a case file, in either form.
use Rattle.std.specs.Prelude.{ℕ, List}
use Rattle.answering.specs.declared.Form.{Form}
use Rattle.answering.specs.declared.Form.TheVariants as form
use Rattle.case_file.specs.Output.{case_file_output}
use Rattle.case_file.specs.Verdict.{case_file_verdict}

abbrev pub case_file_text : Form → List ℕ → List ℕ
case_file_text form.Lines = case_file_output
case_file_text form.Verdict = case_file_verdict
