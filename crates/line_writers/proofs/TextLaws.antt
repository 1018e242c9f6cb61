-- What the text of each part of a line is made of, piece by piece as the code writes it.
use mathlib.Core.Path.{◌≡◌, refl, sym, ap, ◌∙◌}
use mathlib.Core.List.{List, [], ◌++◌, append_assoc, append-nil}
use mathlib.Core.Bool.{Bool, true, false, cond, ◌&&◌, not}
use lib.Dec.{eqb}
use Prim.Native.Nat.{ℕ, ◌+◌, ◌-◌, ◌/◌, ◌%◌, ◌≤◌, ◌<◌}
use native.Mathlib.Omega.{arith}
use borrow.Author.Tests.{eq-eqb, ne_eqb, eqb-true, eqb-false, not-true, not-false, lt-ltb, le-ltb}
use Rattle.formats.specs.Text.{text}
use Rattle.formats.specs.Format.{pair, through, blank}
use Rattle.formats.specs.Words.{words, word_at, one_of, table, before, after}
use Rattle.formats.specs.Numerals.{digits_of}
use Rattle.formats.specs.Numbers.{number}
use Rattle.formats.proofs.Tests.{both_left, both_right}
use Rattle.operand_fields.specs.declared.General.{General}
use Rattle.operand_fields.specs.declared.Immediate.{Immediate}
use Rattle.field_groups.specs.declared.Message.{Message}
use Rattle.operand_fields.specs.declared.Raw.{Raw}
use Rattle.operand_fields.specs.declared.Operand.{Operand}
use Rattle.operand_fields.specs.declared.Operand.TheVariants as operand
use Rattle.decoder.specs.declared.Shl.{Shl}
use Rattle.decoder.specs.declared.Gather.{Gather}
use Rattle.decoder.specs.declared.Scatter.{Scatter}
use Rattle.decoder.specs.declared.RawSend.{RawSend}
use Rattle.decoder.specs.declared.Instruction.{Instruction}
use Rattle.decoder.specs.declared.Instruction.TheVariants as instruction
use Rattle.control_texts.specs.Mirror.Predicate.{zeros, predicate}
use Rattle.control_texts.specs.Mirror.Exec.{exec, scatter_exec}
use Rattle.text_parts.specs.Mirror.Fields.{decimal, hexadecimal}
use Rattle.text_parts.specs.Mirror.Raw.{raw}
use Rattle.text_parts.specs.Mirror.Immediate.{immediate}
use Rattle.operand_texts.specs.Mirror.Region.{verticals, widths, strides, firsts, null_stride, source_region, stride_behind, width_and_stride, destination_region_from, destination_region}
use Rattle.operand_texts.specs.Mirror.General.{general_parts, general}
use Rattle.operand_texts.specs.Mirror.Operand.{forms, form_of, as_general, as_immediate, general_operand, immediate_operand, formed, source, destination}
use Rattle.operand_texts.specs.Texts.{general_text}
use Rattle.line_parts.specs.Mirror.Braces.{bracing, scale_behind, size_and_scale, gather_braces, scale_alone, scatter_braces}
use Rattle.line_parts.specs.Mirror.Parts.{space, scalar_and_raws, blocks, surface, send_endings, message}
use Rattle.lines.specs.Mirror.Bodies.{shl_parts, shl_from, shl, gather_parts, gather_from, gather, letters, scatter_parts, scatter_from, scatter, raw_send_parts, raw_send_from, raw_send}
use Rattle.lines.specs.Mirror.Line.{names, name_of, pred_of, body, named, line}

-- ---- regions

pub source-region-text : (r : ℕ) → source_region.print r ≡ word_at (words verticals) (r % 16) ++ (word_at (words widths) (r / 16 % 16) ++ word_at (words strides) (r / 256 % 16))
unfolding source_region through pair one_of
source-region-text r = refl

-- the words that a destination's region begins with
pub first_alone : (r : ℕ) → r % 256 ≡ 0 → (r / 256 ≡ 0 → ⊥) → 7 + r / 256 ≡ (destination_region_from r).0
first_alone r p q = rw (eq-eqb (r % 256) 0 p, ne_eqb (r / 256) 0 q)

pub first-null : (r : ℕ) → r % 256 ≡ 0 → r / 256 ≡ 0 → r % 16 ≡ (destination_region_from r).0
first-null r p q = rw (eq-eqb (r % 256) 0 p, eq-eqb (r / 256) 0 q)

pub first-other : (r : ℕ) → (r % 256 ≡ 0 → ⊥) → r % 16 ≡ (destination_region_from r).0
first-other r p = rw (ne_eqb (r % 256) 0 p)

stride-text : (r : ℕ) → (eqb (r % 256) 0 && not (eqb (r / 256) 0)) ≡ false → (stride_behind (r % 16) (r / 16 % 16)).print (r / 256 % 16) ≡ word_at (words strides) (r / 256 % 16)
unfolding stride_behind one_of words word_at
stride-text r h = told (eqb (r % 16) 0 && eqb (r / 16 % 16) 0) refl
  where
    null : (eqb (r % 16) 0 && eqb (r / 16 % 16) 0) ≡ true → r / 256 % 16 ≡ 0
    null e =
        let v : r % 16 ≡ 0 = eqb-true (r % 16) 0 (both_left (eqb (r % 16) 0) (eqb (r / 16 % 16) 0) e) in
        let w : r / 16 % 16 ≡ 0 = eqb-true (r / 16 % 16) 0 (both_right (eqb (r % 16) 0) (eqb (r / 16 % 16) 0) e) in
        let low : r % 256 ≡ 0 = omega (arith, v, w) in
        let high : r / 256 ≡ 0 = eqb-true (r / 256) 0 (not-false (eqb (r / 256) 0) (rw (eq-eqb (r % 256) 0 low) at h)) in
        omega (arith, high)

    told : (b : Bool) → (eqb (r % 16) 0 && eqb (r / 16 % 16) 0) ≡ b → (cond b (table null_stride) (table strides)).print (r / 256 % 16) ≡ word_at (words strides) (r / 256 % 16)
    told true e = rw (null e)
    told false e = refl

width_some : (k w h : ℕ) → k < 8 → (width_and_stride k).print (w, h) ≡ word_at (words widths) w ++ (stride_behind k w).print h
unfolding width_and_stride pair one_of
width_some k w h p = rw (lt-ltb k 8 p)

width-none : (k : ℕ) (v : ℕ × ℕ) → 8 ≤ k → (width_and_stride k).print v ≡ []
unfolding width_and_stride blank
width-none k v p = rw (le-ltb k 8 p)

alone-print : (r : ℕ) → (eqb (r % 256) 0 && not (eqb (r / 256) 0)) ≡ true → destination_region.print r ≡ word_at (words firsts) (7 + r / 256) ++ (width_and_stride (7 + r / 256)).print (0, 0)
unfolding destination_region through pair one_of
alone-print r t = rw t

other-print : (r : ℕ) → (eqb (r % 256) 0 && not (eqb (r / 256) 0)) ≡ false → destination_region.print r ≡ word_at (words firsts) (r % 16) ++ (width_and_stride (r % 16)).print (r / 16 % 16, r / 256 % 16)
unfolding destination_region through pair one_of
other-print r t = rw t

-- the first word alone is of a number from 8 on
alone-from : (r : ℕ) → (eqb (r % 256) 0 && not (eqb (r / 256) 0)) ≡ true → 8 ≤ 7 + r / 256
alone-from r t = let n : r / 256 ≡ 0 → ⊥ = eqb-false (r / 256) 0 (not-true (eqb (r / 256) 0) (both_right (eqb (r % 256) 0) (not (eqb (r / 256) 0)) t)) in omega (arith, n)

pub destination-region-alone : (r first : ℕ) → first ≡ (destination_region_from r).0 → 8 ≤ first → destination_region.print r ≡ word_at (words firsts) first
destination-region-alone r first e h = told (eqb (r % 256) 0 && not (eqb (r / 256) 0)) refl
  where
    told : (b : Bool) → (eqb (r % 256) 0 && not (eqb (r / 256) 0)) ≡ b → destination_region.print r ≡ word_at (words firsts) first
    told true t =
        let k : first ≡ 7 + r / 256 = rw t at e in
        alone-print r t ∙ ap (λ (x : List ℕ). word_at (words firsts) (7 + r / 256) ++ x) (width-none (7 + r / 256) (0, 0) (alone-from r t)) ∙ append-nil (word_at (words firsts) (7 + r / 256)) ∙ ap (word_at (words firsts)) (sym k)
    told false t =
        let k : first ≡ r % 16 = rw t at e in
        other-print r t ∙ ap (λ (x : List ℕ). word_at (words firsts) (r % 16) ++ x) (width-none (r % 16) (r / 16 % 16, r / 256 % 16) (omega (arith, k, h))) ∙ append-nil (word_at (words firsts) (r % 16)) ∙ ap (word_at (words firsts)) (sym k)

pub destination-region-full : (r first : ℕ) → first ≡ (destination_region_from r).0 → first < 8 → destination_region.print r ≡ word_at (words firsts) first ++ (word_at (words widths) (r / 16 % 16) ++ word_at (words strides) (r / 256 % 16))
destination-region-full r first e h = told (eqb (r % 256) 0 && not (eqb (r / 256) 0)) refl
  where
    told : (b : Bool) → (eqb (r % 256) 0 && not (eqb (r / 256) 0)) ≡ b → destination_region.print r ≡ word_at (words firsts) first ++ (word_at (words widths) (r / 16 % 16) ++ word_at (words strides) (r / 256 % 16))
    told true t = let k : first ≡ 7 + r / 256 = rw t at e in absurd (omega (arith, k, h, alone-from r t))
    told false t =
        let k : first ≡ r % 16 = rw t at e in
        other-print r t ∙ ap (λ (x : List ℕ). word_at (words firsts) (r % 16) ++ x) (width_some (r % 16) (r / 16 % 16) (r / 256 % 16) (omega (arith, k, h)) ∙ ap (λ (x : List ℕ). word_at (words widths) (r / 16 % 16) ++ x) (stride-text r t))
        ∙ ap (λ (x : ℕ). word_at (words firsts) x ++ (word_at (words widths) (r / 16 % 16) ++ word_at (words strides) (r / 256 % 16))) (sym k)

-- ---- operands

pub general-text : (g : General) → general_text g ≡ word_at (words (text "v|")) 0 ++ ((digits_of 10 g.index ++ word_at (words (text "(|")) 0) ++ ((digits_of 10 g.row ++ word_at (words (text ",|")) 0) ++ (digits_of 10 g.column ++ word_at (words (text ")|")) 0)))
unfolding general_text words word_at
general-text g = rw (append_assoc (digits_of 10 g.index), append_assoc (digits_of 10 g.row))

-- a General operand with its region
four-joined : (a b d e t : List ℕ) → a ++ (b ++ (d ++ (e ++ t))) ≡ (a ++ (b ++ (d ++ e))) ++ t
four-joined a b d e t = rw (append_assoc a, append_assoc b, append_assoc d)

general-joined : (g : General) (t : List ℕ) → word_at (words (text "v|")) 0 ++ ((digits_of 10 g.index ++ word_at (words (text "(|")) 0) ++ ((digits_of 10 g.row ++ word_at (words (text ",|")) 0) ++ ((digits_of 10 g.column ++ word_at (words (text ")|")) 0) ++ t))) ≡ general_text g ++ t
general-joined g t = four-joined (word_at (words (text "v|")) 0) (digits_of 10 g.index ++ word_at (words (text "(|")) 0) (digits_of 10 g.row ++ word_at (words (text ",|")) 0) (digits_of 10 g.column ++ word_at (words (text ")|")) 0) t ∙ ap (λ (x : List ℕ). x ++ t) (sym (general-text g))

of-source : (g : General) → source.print (operand.General g) ≡ word_at (words (text "v|")) 0 ++ ((digits_of 10 g.index ++ word_at (words (text "(|")) 0) ++ ((digits_of 10 g.row ++ word_at (words (text ",|")) 0) ++ ((digits_of 10 g.column ++ word_at (words (text ")|")) 0) ++ source_region.print g.region)))
unfolding source formed form_of general_operand as_general general general_parts decimal after pair through number one_of words word_at
of-source g = refl

of-destination : (o : Operand) → destination.print o ≡ word_at (words (text "v|")) 0 ++ ((digits_of 10 (as_general o).index ++ word_at (words (text "(|")) 0) ++ ((digits_of 10 (as_general o).row ++ word_at (words (text ",|")) 0) ++ ((digits_of 10 (as_general o).column ++ word_at (words (text ")|")) 0) ++ destination_region.print (as_general o).region)))
unfolding destination general_operand general general_parts decimal before after pair through number one_of
of-destination o = refl

pub source-general : (o : Operand) (g : General) → o ≡ operand.General g → source.print o ≡ general_text g ++ source_region.print g.region
source-general o g e = ap source.print e ∙ of-source g ∙ general-joined g (source_region.print g.region)

pub source-immediate : (o : Operand) (i : Immediate) → o ≡ operand.Immediate i → source.print o ≡ word_at (words forms) 1 ++ immediate.print i
unfolding source formed form_of immediate_operand as_immediate pair through one_of
source-immediate o i e = rw e

pub destination-text : (o : Operand) (g : General) → g ≡ as_general o → destination.print o ≡ general_text g ++ destination_region.print g.region
destination-text o g e = of-destination o ∙ general-joined (as_general o) (destination_region.print (as_general o).region) ∙ sym (ap (λ (x : General). general_text x ++ destination_region.print x.region) e)

pub spaced-source-text : (o : Operand) → (after source space).print o ≡ source.print o ++ word_at (words space) 0
unfolding after pair through one_of
spaced-source-text o = refl

-- ---- braces

pub no-gather-braces : (size scale : ℕ) (b : Bool) → b ≡ zeros (size, scale) → b ≡ true → gather_braces.print (size, scale) ≡ word_at (words bracing) 0
unfolding gather_braces size_and_scale blank pair through one_of words word_at
no-gather-braces size scale b e h = rw (← e, h)

pub gather-braces : (size scale : ℕ) (b : Bool) → b ≡ zeros (size, scale) → b ≡ false → gather_braces.print (size, scale) ≡ word_at (words bracing) 1 ++ ((digits_of 10 size ++ word_at (words (text ",|")) 0) ++ (digits_of 10 scale ++ word_at (words (text "}|")) 0))
unfolding gather_braces size_and_scale scale_behind decimal after pair through number one_of
gather-braces size scale b e h = rw (← e, h)

pub no-scatter-braces : (scale : ℕ) → scale ≡ 0 → scatter_braces.print scale ≡ word_at (words bracing) 0
unfolding scatter_braces scale_alone blank pair through one_of words word_at
no-scatter-braces scale e = rw (eq-eqb scale 0 e)

pub scatter-braces : (scale : ℕ) → (scale ≡ 0 → ⊥) → scatter_braces.print scale ≡ word_at (words bracing) 1 ++ (digits_of 10 scale ++ word_at (words (text "}|")) 0)
unfolding scatter_braces scale_alone decimal after pair through number one_of
scatter-braces scale n = rw (ne_eqb scale 0 n)

-- ---- the bodies

pub scalar-and-raws-text : (scalar : Operand) (first second : Raw) → scalar_and_raws.print (scalar, (first, second)) ≡ (after source space).print scalar ++ ((raw.print first ++ word_at (words space) 0) ++ raw.print second)
unfolding scalar_and_raws after pair through one_of
scalar-and-raws-text scalar first second = refl

pub message-text : (m : Message) → message.print (m.extended, (m.num_src, m.num_dst)) ≡ (text "0x" ++ (digits_of 16 m.extended ++ word_at (words space) 0)) ++ ((digits_of 10 m.num_src ++ word_at (words space) 0) ++ (digits_of 10 m.num_dst ++ word_at (words space) 0))
unfolding message hexadecimal decimal before after pair through number one_of words word_at
message-text m = refl

pub surface-text : (n : ℕ) → surface.print n ≡ word_at (words (text "T|")) 0 ++ (digits_of 10 n ++ word_at (words space) 0)
unfolding surface decimal before after pair through number one_of
surface-text n = refl

pub shl-text : (pred : ℕ) (x : Shl) → (shl pred).print (instruction.Shl x) ≡ exec.print x.control.exec ++ ((destination.print x.destination ++ word_at (words space) 0) ++ ((after source space).print x.source ++ source.print x.count))
unfolding shl shl_parts shl_from after pair through one_of
shl-text pred x = refl

pub gather-text : (pred : ℕ) (x : Gather) → (gather pred).print (instruction.Gather x) ≡ word_at (words blocks) x.access.num_blocks ++ (exec.print x.control.exec ++ (surface.print x.access.surface ++ (scalar_and_raws.print (x.offset, (x.element_offset, x.destination)) ++ gather_braces.print (x.access.block_size, x.access.scale))))
unfolding gather gather_parts gather_from pair through one_of
gather-text pred x = refl

pub scatter-text : (pred : ℕ) (x : Scatter) (k : ℕ) → k ≡ x.channels - 1 → (scatter pred).print (instruction.Scatter x) ≡ word_at (words letters) k ++ (scatter_exec.print x.control.exec ++ (scalar_and_raws.print (x.address, (x.element_offset, x.source)) ++ scatter_braces.print x.scale))
unfolding scatter scatter_parts scatter_from pair through one_of
scatter-text pred x k e = rw e

pub raw-send-text : (pred : ℕ) (x : RawSend) → (raw_send pred).print (instruction.RawSend x) ≡ word_at (words send_endings) x.modifiers ++ (exec.print x.control.exec ++ (message.print (x.message.extended, (x.message.num_src, x.message.num_dst)) ++ scalar_and_raws.print (x.descriptor, (x.source, x.destination))))
unfolding raw_send raw_send_parts raw_send_from pair through one_of
raw-send-text pred x = refl

-- ---- the line

pub shl-line : (i : Instruction) (x : Shl) → i ≡ instruction.Shl x → line.print i ≡ (predicate.print x.control.pred ++ word_at (words names) 0) ++ (shl x.control.pred).print (instruction.Shl x)
unfolding line named body pred_of name_of pair through one_of
shl-line i x e = rw (e, append_assoc (predicate.print x.control.pred))

pub gather-line : (i : Instruction) (x : Gather) → i ≡ instruction.Gather x → line.print i ≡ (predicate.print x.control.pred ++ word_at (words names) 1) ++ (gather x.control.pred).print (instruction.Gather x)
unfolding line named body pred_of name_of pair through one_of
gather-line i x e = rw (e, append_assoc (predicate.print x.control.pred))

pub scatter-line : (i : Instruction) (x : Scatter) → i ≡ instruction.Scatter x → line.print i ≡ (predicate.print x.control.pred ++ word_at (words names) 2) ++ (scatter x.control.pred).print (instruction.Scatter x)
unfolding line named body pred_of name_of pair through one_of
scatter-line i x e = rw (e, append_assoc (predicate.print x.control.pred))

pub raw-send-line : (i : Instruction) (x : RawSend) → i ≡ instruction.RawSend x → line.print i ≡ (predicate.print x.control.pred ++ word_at (words names) 3) ++ (raw_send x.control.pred).print (instruction.RawSend x)
unfolding line named body pred_of name_of pair through one_of
raw-send-line i x e = rw (e, append_assoc (predicate.print x.control.pred))
