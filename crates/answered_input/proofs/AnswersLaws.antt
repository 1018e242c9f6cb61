-- What was read, finished and answered.
use Rattle.std.proofs.Common.{◌≡◌, refl, sym, ap, ◌∙◌, subst, Bool, true, false, cond, not, List, [], ℕ, ◌≤◌, ◌<◌, arith, length, take, Option, None, Some, ◌⊎◌, inl, inr}
use Rattle.std.proofs.KnownBytes.{Consumes-whole}
use borrow.Author.Tests.{not-true, not-false}
use Rattle.std.specs.Prelude.{Result, Ok, Err, is_ok, IfOk, IsErrAnd}
use Rattle.std.specs.Borrow.{Bor}
use Rattle.streams.specs.declared.Failure.{Failure}
use Rattle.tally.specs.Mirror.Reading.{Reading}
use Rattle.feeding.specs.declared.State.{State}
use Rattle.feeding.specs.Mirror.Feeding.{Machine, fed, finished}
use Rattle.output.specs.Mirror.Page.{written}
use Rattle.input.specs.Calls.{text_of, ended_by}
use Rattle.input.specs.declared.Unended.{Unended}
use Rattle.input.specs.Mirror.Reads.{has_ended, Reads, ReadsKnown}
use Rattle.answering.specs.declared.Form.{Form}
use Rattle.answering.specs.Mirror.Puts.{Puts}
use Rattle.answering.specs.Mirror.Bench.{case_output}
use Rattle.answering.proofs.PutsLaws.{puts_whole, puts-count}
use Rattle.answering.proofs.BenchLaws.{begun, text-output}
use Rattle.case_file.specs.Forms.{case_file_text}
use Rattle.case_file.proofs.Whole.{case-file-output}
use Rattle.answered_input.specs.Program.{program_output, Answers, PartKnown}
use Rattle.answered_input.specs.Results.{count_of, bytes_of}
use Rattle.answered_input.specs.Mirror.Ended.{ended_output}
use Rattle.answered_input.specs.Mirror.PutsAnswer.{PutsAnswer, PutsKnown}
use Rattle.answered_input.proofs.NoneLaws.{output-some}

-- whether the input has ended, as the function asks it
pub unended-puts : (ended : Bool) (f : Form) (r : Reading) (out : List ℕ) → not ended ≡ true → Puts (ended_output ended f r) out out 0
unfolding ended_output written
unended-puts ended f r out h = rw (not-true ended h) (record { same = refl; small = omega arith })

pub ended-puts : (ended : Bool) (f : Form) (r : Reading) (out after : List ℕ) (used : ℕ) → not ended ≡ false → Puts (case_output f r) out after used → Puts (ended_output ended f r) out after used
unfolding ended_output
ended-puts ended f r out after used h p = rw (not-false ended h) p

-- a case that was read from the start and finished has the output of the calls' text
output-is : (f : Form) (line : List ℕ) (read done : Machine) (ended : Bool) (r : Reads ended (begun line) read) → length line ≡ 16386 → done ≡ finished read →
    ended_output ended f done.reading ≡ program_output (case_file_text f) r.calls
unfolding ended_output program_output
output-is f line read done ended r l e =
    let m : done ≡ finished (fed (text_of r.calls) (begun line)) = e ∙ ap finished r.text in
    ap (λ (b : Bool). cond b (case_output f done.reading) []) r.end
    ∙ ap (λ (o : List ℕ). cond (ended_by r.calls) o []) (ap (λ (x : Machine). case_output f x.reading) m ∙ text-output f (text_of r.calls) line l ∙ case-file-output f (text_of r.calls))

-- what is asked before the answer is whether reading met the end
pub input-answered : (f : Form) (line : List ℕ) (read done : Machine) (ended asked : Bool) (out after : List ℕ) (used : ℕ) → length line ≡ 16386 →
    Reads ended (begun line) read → done ≡ finished read → Puts (ended_output asked f done.reading) out after used → asked ≡ ended → PutsAnswer (case_file_text f) out after used
input-answered f line read done ended asked out after used l r e p same =
    let k : ended_output asked f done.reading ≡ program_output (case_file_text f) r.calls = ap (λ (b : Bool). ended_output b f done.reading) same ∙ output-is f line read done ended r l e in
    record { calls = r.calls; possible = r.possible; puts = subst (λ (t : List ℕ). Puts t out after used) k p }

-- where the bytes that the input has left are known
pub input-known : (known left : Option (List ℕ)) (f : Form) (line : List ℕ) (read done : Machine) (ended asked : Bool) (out after : List ℕ) (used : ℕ) → length line ≡ 16386 →
    ReadsKnown known left ended (begun line) read → done ≡ finished read → Puts (ended_output asked f done.reading) out after used → asked ≡ ended → PutsKnown known (case_file_text f) out after used
unfolding ended_output
input-known known left f line read done true asked out after used l r e p same =
    let m : done ≡ finished (fed r.text (begun line)) = e ∙ ap finished r.fed in
    Consumes-whole known left r.text (λ (text : List ℕ). Puts (case_file_text f text) out after used ⊎ Puts [] out after used) r.taken (r.end refl)
    (inl
    (subst (λ (t : List ℕ). Puts t out after used)
    (ap (λ (b : Bool). cond b (case_output f done.reading) []) same ∙ ap (λ (x : Machine). case_output f x.reading) m ∙ text-output f r.text line l ∙ case-file-output f r.text)
    p))
input-known None left f line read done false asked out after used l r e p same = tt
input-known (Some text) left f line read done false asked out after used l r e p same =
    inr (subst (λ (t : List ℕ). Puts t out after used) (ap (λ (b : Bool). cond b (case_output f done.reading) []) same) p)

module _ (f : Form) (line : List ℕ) (read done : Machine) (out after : List ℕ) (used : ℕ) (l : length line ≡ 16386) where
  -- the input was read to its end
  module _ (e : done ≡ finished read) (p : Puts (case_output f done.reading) out after used) where
    pub read-answered : Reads true (begun line) read → PutsAnswer (case_file_text f) out after used
    read-answered r = input-answered f line read done true true out after used l r e (ended-puts true f done.reading out after used refl p) refl

    pub read-known : (known left : Option (List ℕ)) → ReadsKnown known left true (begun line) read → PutsKnown known (case_file_text f) out after used
    read-known known left r = input-known known left f line read done true true out after used l r e (ended-puts true f done.reading out after used refl p) refl

    -- the answer is never empty
    pub read-some : Reads true (begun line) read → 32813 ≤ length out → 0 < used
    read-some r room =
        let k : case_output f done.reading ≡ case_file_text f (text_of r.calls) =
        ap (λ (x : Machine). case_output f x.reading) (e ∙ ap finished r.text) ∙ text-output f (text_of r.calls) line l ∙ case-file-output f (text_of r.calls) in
        subst (λ (n : ℕ). 0 < n) (sym (puts-count _ out after used room p ∙ ap (λ (t : List ℕ). length t) k)) (output-some f (text_of r.calls))

-- or not
module _ (f : Form) (line : List ℕ) (read : Machine) (out : List ℕ) (l : length line ≡ 16386) where
  pub unread-answered : Reads false (begun line) read → PutsAnswer (case_file_text f) out out 0
  unread-answered r = input-answered f line read (finished read) false false out out 0 l r refl (unended-puts false f (finished read).reading out refl) refl

  pub unread-known : (known left : Option (List ℕ)) → ReadsKnown known left false (begun line) read → PutsKnown known (case_file_text f) out out 0
  unread-known known left r = input-known known left f line read (finished read) false false out out 0 l r refl (unended-puts false f (finished read).reading out refl) refl

-- an error that `?` hands on gives no bytes
pub err-empty : (r : Result (Bor (List ℕ)) Failure) (e : Failure) → IsErrAnd r (λ (x : Failure). x ≡ e) → bytes_of r ≡ []
err-empty (Ok bytes) e h = absurd h
err-empty (Err x) e h = refl

-- the part of a buffer of 32,813 bytes that was written
module _ (output : List ℕ → List ℕ) (out after : List ℕ) (used : ℕ) (room : 32813 ≤ length out) (p : PutsAnswer output out after used) where
  pub part-answers : Answers output (take used after)
  part-answers = record { calls = p.calls; possible = p.possible; is = puts_whole _ out after used room p.puts }

  pub part_count : used ≡ length (take used after)
  part_count = puts-count _ out after used room p.puts ∙ ap (λ (l : List ℕ). length l) (sym (puts_whole _ out after used room p.puts))

  -- where the input's bytes are known
  module _ (known : Option (List ℕ)) (q : PutsKnown known output out after used) where
    pub part-known : PartKnown known output (take used after)
    part-known = told known q
      where
        told : (k : Option (List ℕ)) → PutsKnown k output out after used → PartKnown k output (take used after)
        told None h = tt
        told (Some text) (inl h) = inl (puts_whole _ out after used room h)
        told (Some text) (inr h) = inr (puts_whole _ out after used room h)

-- reading that gives its state has met the input's end
pub ok-ended : (r : Result State Unended) → is_ok r ≡ has_ended r
ok-ended (Ok s) = refl
ok-ended (Err u) = refl

-- an answer that is given is never empty
pub input-some : (f : Form) (line : List ℕ) (read done : Machine) (ended asked : Bool) (out after : List ℕ) (r : Result ℕ Failure) → length line ≡ 16386 →
    Reads ended (begun line) read → done ≡ finished read → Puts (ended_output asked f done.reading) out after (count_of r) → asked ≡ ended → is_ok r ≡ asked → 32813 ≤ length out → IfOk r (λ used. 0 < used)
unfolding ended_output
input-some f line read done ended asked out after (Err e) l h k p same ok room = tt
input-some f line read done ended asked out after (Ok used) l h k p same ok room =
    let q : Puts (case_output f done.reading) out after used = subst (λ (b : Bool). Puts (ended_output b f done.reading) out after used) (sym ok) p in
    let r : Reads true (begun line) read = subst (λ (b : Bool). Reads b (begun line) read) (sym same ∙ sym ok) h in
    read-some f line read done out after used l k q r room
