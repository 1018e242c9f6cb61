-- What encoding refuses, decoding refuses alike. Document 01, "The numbers given back": "The encoder refuses fields by 2, 3 or 4 as decoding would, in
-- field order (a non-zero high word that the type lacks is 3), then 15".
use mathlib.Core.Path.{◌≡◌, refl, ap, ◌∙◌}
use mathlib.Core.Logic.{◌≢◌}
use mathlib.Core.List.{List, ◌++◌}
use mathlib.Core.Bool.{Bool, true, false, cond}
use Prim.Native.Nat.{ℕ}
use native.Mathlib.Omega.{arith}
use lib.ListN.{length, drop}
use lib.Dec.{ltb, eqb}
use borrow.Author.Tests.{eqb-false}
use Rattle.reader.specs.Reply.{refused, done}
use Rattle.fields.specs.Told.{LayoutTold, LackingFirst}
use Rattle.fields.proofs.Told.{lacking-three}
use Rattle.decoder.specs.declared.Instruction.{Instruction}
use Rattle.decoder.specs.Decoding.{instruction_at}
use Rattle.decoder.specs.Format.{instruction_fields, instruction_bytes, instruction_refusal}
use Rattle.decoder.proofs.FormatLaws.{instruction-refusal}
use Rattle.decoder.proofs.EncodeDecode.{refuse-decode}
use Rattle.encoder.specs.Encoding.{encoded_in}

-- a refusal other than 15 is that of a field, and hangs on no buffer
field-refused : (i : Instruction) (room n : ℕ) → encoded_in room i ≡ refused n → n ≢ 15 → (instruction_refusal i ≡ n) × (instruction_refusal i ≢ 0)
unfolding encoded_in
field-refused i room n e other = told (eqb (instruction_refusal i) 0) (ltb room (length (instruction_bytes i))) refl e
  where
    told : (b d : Bool) → eqb (instruction_refusal i) 0 ≡ b → cond b (cond d (refused 15) (done (length (instruction_bytes i)))) (refused (instruction_refusal i)) ≡ refused n → (instruction_refusal i ≡ n) × (instruction_refusal i ≢ 0)
    told true true p w = absurd (other (cc))
    told true false p w = absurd (let z : ◌≡◌ {A = ℕ} 0 1 = cc in omega arith)
    told false d p w = (cc, eqb-false (instruction_refusal i) 0 p)

-- wherever the bytes stand that its fields lay out, whatever follows them
pub refused-alike : (i : Instruction) (room n : ℕ) → encoded_in room i ≡ refused n → n ≢ 15 → LayoutTold (instruction_fields i) → (s : List ℕ) (at : ℕ) (t : List ℕ) → drop at s ≡ instruction_bytes i ++ t → instruction_at s at ≡ refused n
refused-alike i room n r other told s at t e =
    let f = field-refused i room n r other in
    refuse-decode s at i t told f.1 e ∙ ap refused f.0

-- the only other instructions (`told-or-lacking`): the first field that is refused is a high word that the type lacks, and no byte tells it
pub lacking-refused : (i : Instruction) (room : ℕ) → LackingFirst (instruction_fields i) → encoded_in room i ≡ refused 3
unfolding encoded_in
lacking-refused i room p =
    let three : instruction_refusal i ≡ 3 = instruction-refusal i ∙ lacking-three (instruction_fields i) p in
    rw three
