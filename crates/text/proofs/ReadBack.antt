-- What is printed is read back, and what is not read leaves the buffer as it was. Document 02, request 1: "Print then read gives the same bytes"; "room is
-- refused as 15; a refusal leaves the lent buffer as it was".
use mathlib.Core.Path.{◌≡◌, refl, sym, ap, ◌∙◌}
use mathlib.Core.List.{List, ◌++◌}
use mathlib.Core.Logic.{◌⊎◌, inl, inr}
use mathlib.Core.Bool.{Bool, true, false, cond}
use Prim.Native.Nat.{ℕ, ◌-◌, ◌≤◌}
use lib.ListN.{length, take, drop}
use lib.Dec.{ltb, eqb}
use borrow.Author.Tests.{eq-eqb}
use Rattle.little_endian.specs.LittleEndian.{Bytes}
use Rattle.reader.specs.Reply.{Reply, refused, done, got, on_reply}
use Rattle.decoder.specs.declared.Instruction.{Instruction}
use Rattle.decoder.specs.Decoding.{instruction_at}
use Rattle.decoder.specs.Format.{instruction_bytes, instruction_refusal}
use Rattle.encoder.specs.Encoding.{encoded_in, encoded_into}
use Rattle.encoder.proofs.RoundTrip.{decoded-encodes}
use Rattle.lines.specs.LineOf.{line_of}
use Rattle.lines.specs.Claims.{Encodes}
use Rattle.lines.specs.Reading.{on_reading}
use Rattle.lines.proofs.Statements.{line_read, read-line, decoded-line, reading-then}
use Rattle.text.specs.Assembling.{wrote, refused as not-read, assembled_in, assembled_into}
use Rattle.text.proofs.AssemblingLaws.{same-refusal, wrote-not-refused}

-- ---- a line read into a buffer is its instruction encoded there

pub printed-read : (i : Instruction) → Encodes i → (l : List ℕ) → (assembled_in (length l) (line_of i) ≡ on_reply (encoded_in (length l) i) (λ n. not-read n 0) wrote) × (assembled_into l (line_of i) ≡ encoded_into l i)
unfolding assembled_in assembled_into
printed-read i e l = rw (line_read i e) (refl, refl)

-- so the bytes that an instruction was decoded from come back
pub decoded-printed-read : (s : List ℕ) (at : ℕ) (i : Instruction) (next : ℕ) → Bytes s → instruction_at s at ≡ got i next → (l : List ℕ) → next - at ≤ length l →
    (assembled_in (length l) (line_of i) ≡ wrote (next - at)) × (assembled_into l (line_of i) ≡ take (next - at) (drop at s) ++ drop (next - at) l)
decoded-printed-read s at i next b e l h =
    let p = printed-read i (decoded-line s at i next b e) l in
    let q = decoded-encodes s at i next b e l h in
    (p.0 ∙ ap (λ (r : Reply ℕ). on_reply r (λ n. not-read n 0) wrote) q.0, p.1 ∙ q.1)

-- ---- a text that is not read, or has no room, changes nothing: 15, or 16 with a column

abbrev Refusal : ℕ → ℕ → Type 0
Refusal n column = ((n ≡ 15) × (column ≡ 0)) ⊎ (n ≡ 16)

pub not-read-leaves : (t l : List ℕ) (n column : ℕ) → assembled_in (length l) t ≡ not-read n column → (assembled_into l t ≡ l) × Refusal n column
unfolding assembled_in assembled_into encoded_into encoded_in
not-read-leaves t l n column =
    reading-then t
    (λ r. on_reading r (λ i. on_reply (encoded_in (length l) i) (λ k. not-read k 0) wrote) not-read ≡ not-read n column → (on_reading r (λ i. encoded_into l i) (λ _ _. l) ≡ l) × Refusal n column)
    (λ i p. told i (read-line t i p).0.0 (ltb (length l) (length (instruction_bytes i))))
    (λ k p e. (refl, inr (sym (same-refusal 16 k n column e).0)))
  where
    told : (i : Instruction) → instruction_refusal i ≡ 0 → (b : Bool) →
        on_reply (cond (eqb (instruction_refusal i) 0) (cond b (refused 15) (done (length (instruction_bytes i)))) (refused (instruction_refusal i))) (λ k. not-read k 0) wrote ≡ not-read n column →
        (on_reply (cond (eqb (instruction_refusal i) 0) (cond b (refused 15) (done (length (instruction_bytes i)))) (refused (instruction_refusal i))) (λ _. l) (λ k. instruction_bytes i ++ drop k l) ≡ l) × Refusal n column
    told i g true = rw (eq-eqb (instruction_refusal i) 0 g) (λ e. let x = same-refusal 15 0 n column e in (refl, inl (sym x.0, sym x.1)))
    told i g false = rw (eq-eqb (instruction_refusal i) 0 g) (λ e. wrote-not-refused (length (instruction_bytes i)) n column e)
