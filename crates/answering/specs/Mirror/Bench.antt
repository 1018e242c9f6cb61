-- What is written, in either form, through the loader's buffers and counters, as the code has it. `case_file` tells the same over lists, in
-- document 01's words.
use Rattle.std.specs.Prelude.{ℕ, cond, List, ltb, replicate}
use Rattle.tally.specs.Mirror.Reading.{Reading, reading, contents, tables}
use Rattle.tally.specs.Mirror.Lines.{nothing}
use Rattle.tally.specs.Mirror.Verdicts.{verdict_of}
use Rattle.feeding.specs.Mirror.Text.{text_read}
use Rattle.run.specs.Run.{run}
use Rattle.answering.specs.declared.Form.{Form}
use Rattle.answering.specs.Mirror.Forms.{outcome_text, refusal_text}
use Rattle.answering.specs.Mirror.Setting.{setup_of, state_of}

-- a case that is good is run
unfoldable pub good_output : Form → Reading → List ℕ
good_output f r =
    outcome_text f r.case.settings.base
    (run (setup_of r.case r.contents.kernel r.tables) (state_of r.case r.contents r.tables.surfaces))

-- 14 for a bad line, 13 for what had no room
unfoldable pub case_output : Form → Reading → List ℕ
case_output f r =
    cond (ltb 0 (verdict_of r.case).number)
    (refusal_text f (verdict_of r.case).number (verdict_of r.case).position)
    (good_output f r)

-- before the first line: buffers of document 01's sizes ("Tables and sizes")
abbrev pub unread : Reading
unread =
    reading nothing
    (contents (replicate 4096 0) (replicate 4096 0) (replicate 4096 0) (replicate 4096 0) (replicate 8192 0) (replicate 4096 0))
    (tables (replicate 256 0) (replicate 256 0) (replicate 256 0) (replicate 64 0) (replicate 64 0) (replicate 8192 0) (replicate 8 0))

-- lines of at most 16,386 characters
unfoldable pub bench_output : Form → List ℕ → List ℕ
bench_output f input = case_output f (text_read 16386 input unread)
