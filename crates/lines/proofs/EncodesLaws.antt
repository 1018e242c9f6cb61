-- The instructions that have a line are those that the encoder takes.
use mathlib.Core.Path.{◌≡◌, refl}
use mathlib.Core.List.{List, [], ◌∷◌, ◌++◌}
use mathlib.Core.Bool.{true, ◌&&◌}
use Prim.Native.Nat.{ℕ, ◌<◌}
use native.Mathlib.Omega.{arith}
use lib.Dec.{ltb, leb}
use borrow.Author.Tests.{eq-eqb, ltb-true, leb-true, le-leb}
use Rattle.little_endian.specs.LittleEndian.{Bytes}
use Rattle.fields.specs.declared.TagRule.TheVariants as tag
use Rattle.fields.proofs.ExecGood.{judged-good}
use Rattle.fields.specs.declared.ByteRule.TheVariants as byte
use Rattle.fields.specs.declared.WordRule.TheVariants as word
use Rattle.fields.specs.declared.Field.{Field}
use Rattle.fields.specs.declared.Field.TheVariants.{Byte, Word}
use Rattle.fields.specs.Rules.{channels_good, byte_refusal, word_refusal}
use Rattle.fields.specs.Layout.{field_refusal}
use Rattle.operand_fields.specs.declared.Operand.{Operand}
use Rattle.operand_fields.specs.declared.Raw.{Raw}
use Rattle.operand_fields.specs.Layout.{operand_fields, raw_fields}
use Rattle.decoder.specs.declared.Shl.{Shl}
use Rattle.decoder.specs.declared.Gather.{Gather}
use Rattle.decoder.specs.declared.Scatter.{Scatter}
use Rattle.decoder.specs.declared.RawSend.{RawSend}
use Rattle.decoder.specs.declared.Instruction.{Instruction}
use Rattle.decoder.specs.declared.Instruction.TheVariants as instruction
use Rattle.decoder.specs.Format.{shl_fields, gather_fields, scatter_fields, raw_send_fields, instruction_fields, instruction_bytes, instruction_refusal}
use Rattle.formats.proofs.Tests.{both_right}
use Rattle.text_parts.specs.Mirror.Raw.{raw_fits}
use Rattle.operand_texts.specs.Mirror.Operand.{operand_fits}
use Rattle.line_parts.specs.Mirror.Parts.{scalar_and_raws_fit}
use Rattle.lines.specs.Mirror.Bodies.{shl_fits, gather_fits, scatter_fits, raw_send_fits}
use Rattle.lines.specs.Mirror.Line.{pred_of, body_fits, line_fits}
use Rattle.lines.proofs.FitLaws.{all-each, each_all, shl_tests, gather_tests, scatter_tests, raw_send_tests}
use Rattle.lines.proofs.TakenLaws.{TakenIf, taken-append, taken-encodes, good-judged, control-alike, scatter-control-alike, raw-alike, destination-alike, source-alike, scalar-alike, access-alike, message-alike}

-- two groups of fields, one after the other
both-taken : {P Q : Type 0} {fs gs : List Field} → TakenIf fs P → TakenIf gs Q → TakenIf (fs ++ gs) (P × Q)
both-taken {fs} {gs} p q =
    let a = taken-append fs gs in
    record { to = λ h. let t = a.to h in (p.to t.0, q.to t.1); from = λ h. a.from (p.from h.0, q.from h.1) }

opcode : (v : ℕ) → v < 256 → TakenIf (Byte byte.Free v ∷ []) Unit
unfolding field_refusal byte_refusal
opcode v l = record { to = λ h. tt; from = λ h. ((refl, l), tt) }

scalar-and-raws-alike : (o : Operand) (r s : Raw) → TakenIf (operand_fields tag.Scalar o ++ (raw_fields r ++ raw_fields s)) (scalar_and_raws_fit o r s ≡ true)
unfolding scalar_and_raws_fit
scalar-and-raws-alike o r s =
    let a = both-taken (scalar-alike o) (both-taken (raw-alike r) (raw-alike s)) in
    let tests = operand_fits o ∷ raw_fits r ∷ raw_fits s ∷ [] in
    record {
      to = λ h. let t = a.to h in each_all tests (t.0, (t.1.0, (t.1.1, tt)));
      from = λ h. let t = all-each tests h in a.from (t.0, (t.1.0, t.1.1.0));
    }

-- ---- each instruction

shl-alike : (x : Shl) → TakenIf (shl_fields x) (line_fits (instruction.Shl x) ≡ true)
unfolding shl_fields line_fits pred_of body_fits shl_fits
shl-alike x =
    let p = x.control.pred in
    let a = both-taken (opcode 0x24 (omega arith)) (both-taken (control-alike x.control) (both-taken (destination-alike x.destination) (both-taken (source-alike x.source) (source-alike x.count)))) in
    record {
      to = λ h. let t = a.to h in each_all (shl_tests x) (t.1.0.1, (eq-eqb p p refl, (t.1.0.0, (t.1.1.0, (t.1.1.1.0, (t.1.1.1.1, tt))))));
      from = λ h. let t = all-each (shl_tests x) h in a.from (tt, ((t.1.1.0, t.0), (t.1.1.1.0, (t.1.1.1.1.0, t.1.1.1.1.1.0))));
    }

gather-alike : (x : Gather) → TakenIf (gather_fields x) (line_fits (instruction.Gather x) ≡ true)
unfolding gather_fields line_fits pred_of body_fits gather_fits
gather-alike x =
    let p = x.control.pred in
    let a = both-taken (opcode 0x78 (omega arith)) (both-taken (control-alike x.control) (both-taken (access-alike x.access) (scalar-and-raws-alike x.offset x.element_offset x.destination))) in
    record {
      to = λ h.
          let t = a.to h in
          each_all (gather_tests x) (t.1.0.1, (eq-eqb p p refl, (t.1.1.0.0, (t.1.0.0, (t.1.1.0.1.0, (t.1.1.1, (t.1.1.0.1.1, tt)))))));
      from = λ h.
          let t = all-each (gather_tests x) h in
          a.from (tt, ((t.1.1.1.0, t.0), ((t.1.1.0, (t.1.1.1.1.0, t.1.1.1.1.1.1.0)), t.1.1.1.1.1.0)));
    }

channels-alike : (v : ℕ) → TakenIf (Byte byte.Channels v ∷ []) (channels_good v ≡ true)
unfolding field_refusal byte_refusal channels_good
channels-alike v =
    record {
      to = λ h. judged-good (ltb 0 v && ltb v 16) h.0.0;
      from = λ h. ((good-judged (ltb 0 v && ltb v 16) h, omega (arith, ltb-true v 16 (both_right (ltb 0 v) (ltb v 16) h))), tt);
    }

scale-alike : (v : ℕ) → TakenIf (Word word.Free v ∷ []) (leb v 65535 ≡ true)
unfolding field_refusal word_refusal
scale-alike v = record { to = λ h. le-leb v 65535 (omega (arith, h.0.1)); from = λ h. ((refl, omega (arith, leb-true v 65535 h)), tt) }

scatter-alike : (x : Scatter) → TakenIf (scatter_fields x) (line_fits (instruction.Scatter x) ≡ true)
unfolding scatter_fields line_fits pred_of body_fits scatter_fits
scatter-alike x =
    let p = x.control.pred in
    let b = both-taken (channels-alike x.channels) (both-taken (scale-alike x.scale) (scalar-and-raws-alike x.address x.element_offset x.source)) in
    let a = both-taken (opcode 0x4e (omega arith)) (both-taken (opcode 0x07 (omega arith)) (both-taken (scatter-control-alike x.control) b)) in
    record {
      to = λ h.
          let t = (a.to h).1.1 in
          each_all (scatter_tests x) (t.0.1, (eq-eqb p p refl, (t.1.0, (t.0.0, (t.1.1.1, (t.1.1.0, tt))))));
      from = λ h.
          let t = all-each (scatter_tests x) h in
          a.from (tt, (tt, ((t.1.1.1.0, t.0), (t.1.1.0, (t.1.1.1.1.1.0, t.1.1.1.1.0)))));
    }

modifiers-alike : (v : ℕ) → TakenIf (Byte byte.Modifiers v ∷ []) (ltb v 2 ≡ true)
unfolding field_refusal byte_refusal
modifiers-alike v = record { to = λ h. judged-good (ltb v 2) h.0.0; from = λ h. ((good-judged (ltb v 2) h, omega (arith, ltb-true v 2 h)), tt) }

raw-send-alike : (x : RawSend) → TakenIf (raw_send_fields x) (line_fits (instruction.RawSend x) ≡ true)
unfolding raw_send_fields line_fits pred_of body_fits raw_send_fits
raw-send-alike x =
    let p = x.control.pred in
    let b = both-taken (control-alike x.control) (both-taken (message-alike x.message) (scalar-and-raws-alike x.descriptor x.source x.destination)) in
    let a = both-taken (opcode 0x5d (omega arith)) (both-taken (modifiers-alike x.modifiers) b) in
    record {
      to = λ h.
          let t = (a.to h).1 in
          each_all (raw_send_tests x) (t.1.0.1, (eq-eqb p p refl, (t.0, (t.1.0.0, (t.1.1.0, (t.1.1.1, tt))))));
      from = λ h.
          let t = all-each (raw_send_tests x) h in
          a.from (tt, (t.1.1.0, ((t.1.1.1.0, t.0), (t.1.1.1.1.0, t.1.1.1.1.1.0))));
    }

-- ---- every instruction

fields-alike : (i : Instruction) → TakenIf (instruction_fields i) (line_fits i ≡ true)
unfolding instruction_fields
fields-alike (instruction.Shl x) = shl-alike x
fields-alike (instruction.Gather x) = gather-alike x
fields-alike (instruction.Scatter x) = scatter-alike x
fields-alike (instruction.RawSend x) = raw-send-alike x

pub fits-encodes : (i : Instruction) → line_fits i ≡ true → (instruction_refusal i ≡ 0) × Bytes (instruction_bytes i)
unfolding instruction_refusal instruction_bytes
fits-encodes i h = (taken-encodes (instruction_fields i)).to ((fields-alike i).from h)

pub encodes-fits : (i : Instruction) → instruction_refusal i ≡ 0 → Bytes (instruction_bytes i) → line_fits i ≡ true
unfolding instruction_refusal instruction_bytes
encodes-fits i e b = (fields-alike i).to ((taken-encodes (instruction_fields i)).from (e, b))
