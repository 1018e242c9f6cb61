-- The format prints each instruction's line, as `LineOf` has it.
use mathlib.Core.Path.{◌≡◌, refl, ap, ◌∙◌}
use mathlib.Core.List.{List, ◌++◌, append_assoc}
use mathlib.Core.Bool.{Bool, true, false, cond, not}
use Prim.Native.Nat.{ℕ, zero, suc, ◌-◌, ◌^◌, ◌<◌}
use native.Mathlib.Omega.{arith}
use lib.Dec.{ltb, eqb}
use borrow.Author.Tests.{ltb-true}
use Rattle.hex_text.specs.Digits.{character_of}
use Rattle.formats.specs.Text.{text}
use Rattle.formats.specs.Format.{pair, through, blank}
use Rattle.formats.specs.Words.{words, word_at, one_of, before, after}
use Rattle.formats.specs.Numerals.{digits, digits_of}
use Rattle.formats.specs.Numbers.{number}
use Rattle.formats.proofs.Tests.{both_left, both_right}
use Rattle.bits.specs.Bits.{bit}
use Rattle.fields.specs.Rules.{channels_good}
use Rattle.operand_fields.specs.declared.Raw.{Raw}
use Rattle.field_groups.specs.declared.Access.{Access}
use Rattle.operand_fields.specs.declared.Operand.{Operand}
use Rattle.decoder.specs.declared.Shl.{Shl}
use Rattle.decoder.specs.declared.Gather.{Gather}
use Rattle.decoder.specs.declared.Scatter.{Scatter}
use Rattle.decoder.specs.declared.RawSend.{RawSend}
use Rattle.decoder.specs.declared.Instruction.{Instruction}
use Rattle.decoder.specs.declared.Instruction.TheVariants as instruction
use Rattle.control_texts.specs.Mirror.Predicate.{zeros, predicate}
use Rattle.control_texts.specs.Mirror.Exec.{scatter_exec}
use Rattle.text_parts.specs.Mirror.Fields.{decimal, hexadecimal}
use Rattle.control_texts.specs.Texts.{optional, predicate_text, exec_text}
use Rattle.text_parts.specs.Texts.{raw_text}
use Rattle.control_texts.proofs.PrintLaws.{predicate-prints, exec-prints, scatter-exec-prints}
use Rattle.text_parts.proofs.PrintLaws.{raw-prints}
use Rattle.operand_texts.specs.Texts.{operand_text}
use Rattle.line_parts.specs.Mirror.Braces.{bracing, scale_behind, size_and_scale, gather_braces, scale_alone, scatter_braces}
use Rattle.line_parts.specs.Mirror.Parts.{scalar_and_raws, scalar_and_raws_fit, blocks, surface, send_endings, message}
use Rattle.lines.specs.Mirror.Bodies.{shl_parts, shl_from, shl_fits, shl, gather_parts, gather_from, gather_fits, gather, letters, scatter_parts, scatter_from, scatter_fits, scatter, raw_send_parts, raw_send_from, raw_send_fits, raw_send}
use Rattle.lines.specs.Mirror.Line.{name_of, pred_of, body, named, body_fits, line_fits, line}
use Rattle.lines.specs.LineOf.{spaced, shl_line, gather_braces_text, gather_line, letters_text, scatter_braces_text, scatter_line, raw_send_line, line_of}
use Rattle.operand_texts.proofs.PrintLaws.{source-prints, destination-prints}
use Rattle.lines.proofs.FitLaws.{all-each, shl_tests, gather_tests, scatter_tests, raw_send_tests}

-- ---- SHL

shl-prints : (x : Shl) → line_fits (instruction.Shl x) ≡ true → line.print (instruction.Shl x) ≡ shl_line x
unfolding line named body shl shl_parts shl_from line_fits pred_of name_of body_fits shl_fits pair through after one_of words word_at shl_line
shl-prints x h =
    let t = all-each (shl_tests x) h in
    rw (predicate-prints x.control.pred t.0, exec-prints x.control.exec t.1.1.0, destination-prints x.destination t.1.1.1.0, source-prints x.source t.1.1.1.1.0, source-prints x.count t.1.1.1.1.1.0)

-- ---- a scalar and two raw operands, with what stands behind them

scalar-and-raws-print : (o : Operand) (r s : Raw) (u : List ℕ) → scalar_and_raws_fit o r s ≡ true → scalar_and_raws.print (o, (r, s)) ++ u ≡ spaced (operand_text o) ++ (spaced (raw_text r) ++ (raw_text s ++ u))
unfolding scalar_and_raws scalar_and_raws_fit pair through after one_of words word_at
scalar-and-raws-print o r s u h =
    rw (source-prints o (both_left _ _ h), raw-prints r, raw-prints s)
    (append_assoc (spaced (operand_text o)) (spaced (raw_text r) ++ raw_text s) u ∙ ap (λ (l : List ℕ). spaced (operand_text o) ++ l) (append_assoc (spaced (raw_text r)) (raw_text s) u))

-- ---- GATHER_SCALED

blocks-text : (n : ℕ) → n < 3 → word_at (words blocks) n ≡ spaced (digits_of 10 (2 ^ n))
unfolding words word_at digits character_of
blocks-text zero h = refl
blocks-text (suc zero) h = refl
blocks-text (suc (suc zero)) h = refl
blocks-text (suc (suc (suc n))) h = absurd (omega arith)

gather-braces-print : (a : Access) → gather_braces.print (a.block_size, a.scale) ≡ gather_braces_text a
unfolding gather_braces size_and_scale scale_behind decimal after blank number pair through one_of words word_at gather_braces_text
gather-braces-print a = told (zeros (a.block_size, a.scale))
  where
    told : (b : Bool) → word_at (words bracing) (cond b 0 1) ++ (size_and_scale (cond b 0 1)).print (a.block_size, a.scale) ≡
        optional (not b) (text " {" ++ (digits_of 10 a.block_size ++ (text "," ++ (digits_of 10 a.scale ++ text "}"))))
    told true = refl
    told false = ap (λ (l : List ℕ). text " {" ++ l) (append_assoc (digits_of 10 a.block_size) (text ",") (digits_of 10 a.scale ++ text "}"))

gather-prints : (x : Gather) → line_fits (instruction.Gather x) ≡ true → line.print (instruction.Gather x) ≡ gather_line x
unfolding line named body gather gather_parts gather_from surface decimal before after number line_fits pred_of name_of body_fits gather_fits pair through one_of words word_at gather_line
gather-prints x h =
    let t = all-each (gather_tests x) h in
    rw (predicate-prints x.control.pred t.0, blocks-text x.access.num_blocks (ltb-true x.access.num_blocks 3 t.1.1.0), exec-prints x.control.exec t.1.1.1.0, scalar-and-raws-print x.offset x.element_offset x.destination (gather_braces.print (x.access.block_size, x.access.scale)) t.1.1.1.1.1.0, gather-braces-print x.access)

-- ---- SVM_SCATTER4_SCALED

letters-text : (c : ℕ) → channels_good c ≡ true → word_at (words letters) (c - 1) ≡ spaced (letters_text c)
unfolding channels_good words word_at letters_text bit
letters-text c h = told c (ltb-true 0 c (both_left (ltb 0 c) (ltb c 16) h)) (ltb-true c 16 (both_right (ltb 0 c) (ltb c 16) h))
  where
    told : (c : ℕ) → 0 < c → c < 16 → word_at (words letters) (c - 1) ≡ spaced (letters_text c)
    told zero l h = absurd (omega arith)
    told (suc zero) l h = refl
    told (suc (suc zero)) l h = refl
    told (suc (suc (suc zero))) l h = refl
    told (suc (suc (suc (suc zero)))) l h = refl
    told (suc (suc (suc (suc (suc zero))))) l h = refl
    told (suc (suc (suc (suc (suc (suc zero)))))) l h = refl
    told (suc (suc (suc (suc (suc (suc (suc zero))))))) l h = refl
    told (suc (suc (suc (suc (suc (suc (suc (suc zero)))))))) l h = refl
    told (suc (suc (suc (suc (suc (suc (suc (suc (suc zero))))))))) l h = refl
    told (suc (suc (suc (suc (suc (suc (suc (suc (suc (suc zero)))))))))) l h = refl
    told (suc (suc (suc (suc (suc (suc (suc (suc (suc (suc (suc zero))))))))))) l h = refl
    told (suc (suc (suc (suc (suc (suc (suc (suc (suc (suc (suc (suc zero)))))))))))) l h = refl
    told (suc (suc (suc (suc (suc (suc (suc (suc (suc (suc (suc (suc (suc zero))))))))))))) l h = refl
    told (suc (suc (suc (suc (suc (suc (suc (suc (suc (suc (suc (suc (suc (suc zero)))))))))))))) l h = refl
    told (suc (suc (suc (suc (suc (suc (suc (suc (suc (suc (suc (suc (suc (suc (suc zero))))))))))))))) l h = refl
    told (suc (suc (suc (suc (suc (suc (suc (suc (suc (suc (suc (suc (suc (suc (suc (suc c)))))))))))))))) l h = absurd (omega arith)

scatter-braces-print : (s : ℕ) → scatter_braces.print s ≡ scatter_braces_text s
unfolding scatter_braces scale_alone decimal after blank number pair through one_of words word_at scatter_braces_text
scatter-braces-print s = told (eqb s 0)
  where
    told : (b : Bool) → word_at (words bracing) (cond b 0 1) ++ (scale_alone (cond b 0 1)).print s ≡ optional (not b) (text " {" ++ (digits_of 10 s ++ text "}"))
    told true = refl
    told false = refl

scatter-prints : (x : Scatter) → line_fits (instruction.Scatter x) ≡ true → line.print (instruction.Scatter x) ≡ scatter_line x
unfolding line named body scatter scatter_parts scatter_from line_fits pred_of name_of body_fits scatter_fits pair through one_of words word_at scatter_line
scatter-prints x h =
    let t = all-each (scatter_tests x) h in
    on (predicate-prints x.control.pred t.0) (scatter-exec-prints x.control.exec t.1.1.1.0) (scalar-and-raws-print x.address x.element_offset x.source (scatter_braces.print x.scale) t.1.1.1.1.0)
    (word_at (words letters) (x.channels - 1)) (letters-text x.channels t.1.1.0)
  where
    rest : List ℕ
    rest = scalar_and_raws.print (x.address, (x.element_offset, x.source)) ++ scatter_braces.print x.scale

    on : predicate.print x.control.pred ≡ predicate_text x.control.pred → scatter_exec.print x.control.exec ≡ exec_text x.control.exec → rest ≡ spaced (operand_text x.address) ++ (spaced (raw_text x.element_offset) ++ (raw_text x.source ++ scatter_braces.print x.scale)) →
        (w : List ℕ) → w ≡ spaced (letters_text x.channels) → predicate.print x.control.pred ++ (text "SVM_SCATTER4_SCALED." ++ (w ++ (scatter_exec.print x.control.exec ++ rest))) ≡ scatter_line x
    on p e r w l = rw (p, e, r, l, scatter-braces-print x.scale)

-- ---- RAW_SEND

sends-text : (m : ℕ) → m < 2 → word_at (words send_endings) m ≡ spaced (optional (bit m 0) (text "c"))
unfolding words word_at bit
sends-text zero h = refl
sends-text (suc zero) h = refl
sends-text (suc (suc m)) h = absurd (omega arith)

message-print : (e s d : ℕ) (u : List ℕ) → message.print (e, (s, d)) ++ u ≡ text "0x" ++ (spaced (digits_of 16 e) ++ (spaced (digits_of 10 s) ++ (spaced (digits_of 10 d) ++ u)))
unfolding message hexadecimal decimal before after number pair through one_of words word_at
message-print e s d u =
    append_assoc (text "0x" ++ spaced (digits_of 16 e)) (spaced (digits_of 10 s) ++ spaced (digits_of 10 d)) u
    ∙ ap (λ (l : List ℕ). text "0x" ++ (spaced (digits_of 16 e) ++ l)) (append_assoc (spaced (digits_of 10 s)) (spaced (digits_of 10 d)) u)

scalar-and-raws-last : (o : Operand) (r s : Raw) → scalar_and_raws_fit o r s ≡ true → scalar_and_raws.print (o, (r, s)) ≡ spaced (operand_text o) ++ (spaced (raw_text r) ++ raw_text s)
unfolding scalar_and_raws scalar_and_raws_fit pair through after one_of words word_at
scalar-and-raws-last o r s h = rw (source-prints o (both_left _ _ h), raw-prints r, raw-prints s)

raw-send-prints : (x : RawSend) → line_fits (instruction.RawSend x) ≡ true → line.print (instruction.RawSend x) ≡ raw_send_line x
unfolding line named body raw_send raw_send_parts raw_send_from line_fits pred_of name_of body_fits raw_send_fits pair through one_of words word_at raw_send_line
raw-send-prints x h =
    let t = all-each (raw_send_tests x) h in
    rw (predicate-prints x.control.pred t.0, sends-text x.modifiers (ltb-true x.modifiers 2 t.1.1.0), exec-prints x.control.exec t.1.1.1.0, message-print x.message.extended x.message.num_src x.message.num_dst (scalar_and_raws.print (x.descriptor, (x.source, x.destination))), scalar-and-raws-last x.descriptor x.source x.destination t.1.1.1.1.1.0)

-- ---- every instruction

pub line-prints : (i : Instruction) → line_fits i ≡ true → line.print i ≡ line_of i
unfolding line_of
line-prints (instruction.Shl x) h = shl-prints x h
line-prints (instruction.Gather x) h = gather-prints x h
line-prints (instruction.Scatter x) h = scatter-prints x h
line-prints (instruction.RawSend x) h = raw-send-prints x h
