-- For every input what is written through the loader's buffers, in either form, is that of the case file.
use mathlib.Core.Path.{◌≡◌, refl, sym, ap, ap₂, ◌∙◌}
use mathlib.Core.Bool.{true, false, cond}
use mathlib.Core.Logic.{inl, ⊎_elim}
use mathlib.Core.List.{List, [], ◌∷◌, map, append-nil, flatten}
use Prim.Native.Nat.{ℕ, zero, suc, ◌≤◌}
use native.Mathlib.Omega.{arith}
use lib.ListN.{length, take, replicate, length-replicate, get_or-replicate}
use lib.Dec.{ltb}
use borrow.Author.Tests.{lt-ltb, ltb-true}
use Rattle.little_endian.specs.LittleEndian.{number_at}
use Rattle.hex_text.specs.Bytes.{hex_bytes}
use Rattle.hex_text.proofs.DigitLaws.{cond_both}
use Rattle.tally.specs.Mirror.Reading.{Contents, Tables, Reading, reading}
use Rattle.tally.specs.Mirror.Lines.{KINDS, nothing, met_of, length_of}
use Rattle.tally.specs.Mirror.Verdicts.{taint_length, verdict_of}
use Rattle.line_blocks.specs.LinesOf.{lines_of}
use Rattle.feeding.specs.Mirror.Text.{lines_read, text_read}
use Rattle.feeding.specs.Mirror.Feeding.{finished}
use Rattle.feeding.proofs.FeedingLaws.{blocks_fed}
use Rattle.step.specs.State.{Setup, State}
use Rattle.output.specs.Output.{answer_line, output_bytes}
use Rattle.run.specs.Run.{run}
use Rattle.run.proofs.Whole.{tables-refused}
use Rattle.plain_run.proofs.PlainRunLaws.{equal-taken}
use Rattle.answering.specs.Mirror.Setting as loader
use Rattle.answering.specs.Mirror.Setting.{taint_of}
use Rattle.answering.proofs.BenchLaws.{begun, blocks-answered}
use Rattle.answering.specs.declared.Form.{Form}
use Rattle.answering.specs.declared.Form.TheVariants as form
use Rattle.answering.specs.Outcome.{outcome_output, answer_verdict}
use Rattle.answering.specs.Mirror.Forms.{outcome_text, refusal_text}
use Rattle.answering.specs.Mirror.Puts.{Puts}
use Rattle.answering.specs.Mirror.Bench.{good_output, case_output, unread, bench_output}
use Rattle.case_file.specs.Frames.{of_kind, first_of}
use Rattle.case_file.specs.BadLine.{first_bad}
use Rattle.case_file.specs.Case.{type_of, start_of, count_of, dword_of, predicate_count_of, base_of, memory_of, register_size_of, marks_of, case_setup, case_state}
use Rattle.case_file.specs.Output.{frames_output, position_of, answered, case_file_output}
use Rattle.case_file.specs.Verdict.{judged, case_file_verdict}
use Rattle.case_file.specs.Forms.{case_file_text}
use Rattle.case_file.proofs.Padded.{padded, padded-none, take-padded, take-table}
use Rattle.case_file.proofs.ByKind.{Kinds, kinds_of}
use Rattle.case_file.proofs.Plain as plain
use Rattle.case_file.proofs.Plain.{Plain, buffer_of, size_of}
use Rattle.case_file.proofs.Loaded.{case_at, contents_at, tables_at, reading_at}
use Rattle.case_file.proofs.Broken.{Broken, broken-bad}
use Rattle.case_file.proofs.Held.{Sizes, Few, Held}
use Rattle.case_file.proofs.Lines.{After, Told, lines-told, position-positive}

marks-taken : (size : ℕ) (cs : List (List ℕ)) (z bytes : List ℕ) → length bytes ≤ size →
    take (cond (ltb 0 (length cs)) (length (first_of cs)) (length bytes)) (cond (ltb 0 (length cs)) (padded z (first_of cs)) (replicate size 0)) ≡ marks_of cs bytes
unfolding first_of marks_of
marks-taken size [] z bytes h = equal-taken 0 (length bytes) size h
marks-taken size (c ∷ cs) z bytes h = rw (lt-ltb 0 (suc (length cs)) (omega arith)) (take-padded z c)

-- what is written in a form for frames, and for a line number: 0 if no line is bad
unfoldable frames_text : Form → List (List ℕ) → List ℕ
frames_text f frames = outcome_text f (case_setup frames).constants.base (run (case_setup frames) (case_state frames))

unfoldable judged_text : Form → ℕ → List (List ℕ) → List ℕ
judged_text f zero frames = frames_text f frames
judged_text f (suc n) frames = refusal_text f 14 (position_of (suc n))

-- what the loader holds, cut to what was read, is the case
module _ (z : Contents) (t : Tables) (frames : List (List ℕ)) (n : ℕ) where
  abbrev g : Kinds
  g = kinds_of frames

  setup-same : loader.setup_of (case_at g n) (contents_at z t g).kernel (tables_at z t g) ≡ case_setup frames
  unfolding loader.setup_of case_setup met_of length_of
  setup-same =
      rw (take-padded z.kernel (first_of (g 7)), take-table type_of t.types (g 2), take-table start_of t.starts (g 2), take-table count_of t.counts (g 2), take-table dword_of t.predicate_bits (g 3), take-table predicate_count_of t.predicate_counts (g 3), take-table {A = List ℕ} length t.lengths (g 4)) refl

  state-same : Few g → loader.state_of (case_at g n) (contents_at z t g) (tables_at z t g).surfaces ≡ case_state frames
  unfolding loader.state_of case_state met_of length_of taint_of taint_length
  state-same f =
      let surfaces : length (flatten (g 4)) ≤ 8192 = omega (arith, f.bytes_small, f.surfaces-few) in
      rw (
        take-padded z.registers (first_of (g 1)),
        take-padded t.surfaces (flatten (g 4)),
        take-padded z.memory (memory_of (first_of (g 5))),
        marks-taken 4096 (g 8) z.register_taint (first_of (g 1)) f.registers-small,
        marks-taken 8192 (g 9) z.surface_taint (flatten (g 4)) surfaces,
        marks-taken 4096 (g 10) z.memory_taint (memory_of (first_of (g 5))) f.memory-small,
      ) refl

  kept-output : (f : Form) → Few g → case_output f (reading_at z t g n) ≡ frames_text f frames
  unfolding case_output good_output frames_text verdict_of case_setup
  kept-output f few = ap₂ (λ (x : Setup) (s : State). outcome_text f (base_of (first_of (g 5))) (run x s)) setup-same (state-same few)

-- a run that answers 13 is written as a case that is not run
broken-output : (f : Form) (frames : List (List ℕ)) (r : Reading) → r.case.bad ≡ 0 → r.case.full ≡ true → Broken (kinds_of frames) → case_output f r ≡ frames_text f frames
unfolding case_output frames_text verdict_of refusal_text outcome_text outcome_output output_bytes answer_verdict
broken-output form.Lines frames r b full k =
    let none : ltb 0 r.case.bad ≡ false = rw b refl in
    rw (none, full, tables-refused (case_setup frames) (case_state frames) (broken-bad frames k)) (sym (append-nil (answer_line 13 0 0)))
broken-output form.Verdict frames r b full k =
    let none : ltb 0 r.case.bad ≡ false = rw b refl in
    rw (none, full, tables-refused (case_setup frames) (case_state frames) (broken-bad frames k)) refl

bad-output : (f : Form) (r : Reading) (n : ℕ) → r.case.bad ≡ position_of (suc n) → case_output f r ≡ refusal_text f 14 (position_of (suc n))
unfolding case_output verdict_of
bad-output f r n e = let some : ltb 0 r.case.bad ≡ true = ap (ltb 0) e ∙ lt-ltb 0 (position_of (suc n)) (position-positive n) in rw some (ap (refusal_text f 14) e)

module _ (f : Form) (z : Contents) (t : Tables) (s : Sizes z t) where
  held-output : (frames : List (List ℕ)) (r : Reading) → r.case.bad ≡ 0 → Held z t (kinds_of frames) r → case_output f r ≡ frames_text f frames
  held-output frames r b held =
      ⊎_elim (λ k. ap (case_output f) k.same ∙ kept-output z t frames k.lines f k.few) (λ w. broken-output f frames r b w.0 w.1) held

  abbrev start : Reading
  start = reading nothing z t

  none-met : (k : ℕ) → met_of k nothing ≡ 0
  unfolding met_of nothing
  none-met k = cond_both (λ (m : ℕ). m ≡ 0) (ltb k KINDS) (λ h. get_or-replicate {A = ℕ} KINDS k 0 0 (ltb-true k KINDS h)) (λ _. refl)

  at-start : After z t s [] start
  unfolding position_of nothing of_kind first_of flatten memory_of base_of dword_of register_size_of number_at met_of
  at-start =
      record {
        judges = record { places = refl; met = λ k _ _. none-met k; bad = refl; lines = refl };
        held = inl (record { lines = 0; same = sym (rw (padded-none z.registers, padded-none z.memory, padded-none z.kernel, padded-none z.register_taint, padded-none z.surface_taint, padded-none z.memory_taint, padded-none t.types, padded-none t.starts, padded-none t.counts, padded-none t.predicate_bits, padded-none t.predicate_counts, padded-none t.surfaces, padded-none t.lengths) refl); few = record { registers-small = omega arith; memory-small = omega arith; variables-few = omega arith; predicates-few = omega arith; surfaces-few = omega arith; bytes_small = omega arith } });
      }

  lines-output : (lines : List (List ℕ)) → case_output f (lines_read 16386 lines start) ≡ judged_text f (first_bad [] lines) (map hex_bytes lines)
  unfolding judged_text position_of
  lines-output lines = told (first_bad [] lines) refl
    where
      w : Told z t s [] lines start
      w = lines-told z t s lines [] start at-start

      told : (n : ℕ) → first_bad [] lines ≡ n → case_output f (lines_read 16386 lines start) ≡ judged_text f n (map hex_bytes lines)
      told zero e = held-output (map hex_bytes lines) (lines_read 16386 lines start) (w.bad ∙ ap position_of e) (w.held e)
      told (suc n) e = bad-output f (lines_read 16386 lines start) n (w.bad ∙ ap position_of e)

content-sizes : (k : ℕ) (p : Plain k) → length (buffer_of k p unread.contents) ≡ size_of k p
content-sizes k plain.registers = length-replicate {A = ℕ} 4096 0
content-sizes k plain.kernel = length-replicate {A = ℕ} 4096 0
content-sizes k plain.register_taint = length-replicate {A = ℕ} 4096 0
content-sizes k plain.surface_taint = length-replicate {A = ℕ} 8192 0
content-sizes k plain.memory_taint = length-replicate {A = ℕ} 4096 0

sizes : Sizes unread.contents unread.tables
sizes =
    record {
      contents = content-sizes;
      memory = length-replicate {A = ℕ} 4096 0;
      types = length-replicate {A = ℕ} 256 0;
      starts = length-replicate {A = ℕ} 256 0;
      counts = length-replicate {A = ℕ} 256 0;
      predicate_bits = length-replicate {A = ℕ} 64 0;
      predicate_counts = length-replicate {A = ℕ} 64 0;
      surfaces = length-replicate {A = ℕ} 8192 0;
      lengths = length-replicate {A = ℕ} 8 0;
    }

-- each form by itself, as the case file tells it
each-form : (f : Form) (input : List ℕ) → judged_text f (first_bad [] (lines_of input)) (map hex_bytes (lines_of input)) ≡ case_file_text f input
unfolding case_file_output case_file_verdict judged_text frames_text outcome_text refusal_text frames_output answered judged
each-form form.Lines input = told (first_bad [] (lines_of input)) (map hex_bytes (lines_of input))
  where
    told : (n : ℕ) (frames : List (List ℕ)) → judged_text form.Lines n frames ≡ answered n frames
    told zero frames = refl
    told (suc n) frames = refl
each-form form.Verdict input = told (first_bad [] (lines_of input)) (map hex_bytes (lines_of input))
  where
    told : (n : ℕ) (frames : List (List ℕ)) → judged_text form.Verdict n frames ≡ judged n frames
    told zero frames = refl
    told (suc n) frames = refl

-- what has no room in the loader's buffers breaks a size, so the run of the case answers 13 itself
pub case-file-output : (f : Form) (input : List ℕ) → bench_output f input ≡ case_file_text f input
unfolding bench_output text_read
case-file-output f input = lines-output f unread.contents unread.tables sizes (lines_of input) ∙ each-form f input

-- however the input is cut into blocks
pub case-file-answered : (f : Form) (blocks : List (List ℕ)) (line out after : List ℕ) (used : ℕ) → length line ≡ 16386 → 32813 ≤ length out →
    Puts (case_output f (finished (blocks_fed blocks (begun line))).reading) out after used → take used after ≡ case_file_text f (flatten blocks)
case-file-answered f blocks line out after used h k e = blocks-answered f blocks line out after used h k e ∙ case-file-output f (flatten blocks)
