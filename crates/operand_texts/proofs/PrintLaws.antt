-- The formats print the texts that `Texts` has, for every operand that the encoder takes.
use mathlib.Core.Path.{◌≡◌, refl, sym, ap, ◌∙◌}
use mathlib.Core.List.{List, ◌++◌, append_assoc, append-nil}
use mathlib.Core.Bool.{Bool, true, false, cond, ◌&&◌, not, true≢false}
use Prim.Native.Nat.{ℕ, zero, suc, ◌+◌, ◌/◌, ◌%◌, ◌≤◌, ◌<◌}
use native.Mathlib.Omega.{arith}
use lib.Dec.{eqb}
use borrow.Author.Tests.{eqb-true, eqb-false, eq-eqb, ne_eqb, lt-ltb, le-ltb}
use Rattle.hex_text.specs.Digits.{character_of}
use Rattle.formats.specs.Text.{text}
use Rattle.formats.specs.Format.{Format, pair, through, blank}
use Rattle.formats.specs.Words.{words, word_at, one_of, table, before, after}
use Rattle.formats.specs.Numerals.{digits, digits_of}
use Rattle.formats.specs.Numbers.{number}
use Rattle.formats.proofs.Tests.{both_left, both_right}
use Rattle.operand_fields.specs.declared.General.{General}
use Rattle.operand_fields.specs.declared.Operand.{Operand}
use Rattle.operand_fields.specs.declared.Operand.TheVariants as operand
use Rattle.text_parts.specs.Mirror.Fields.{decimal}
use Rattle.text_parts.proofs.PrintLaws.{immediate-prints}
use Rattle.operand_texts.specs.Mirror.Region.{verticals, widths, strides, region_fits, source_region, firsts, null_stride, stride_behind, width_and_stride, destination_region}
use Rattle.operand_texts.specs.Mirror.General.{general_parts, general}
use Rattle.operand_texts.specs.Mirror.Operand.{form_of, as_general, as_immediate, general_operand_fits, operand_fits, general_operand, immediate_operand, formed, source, destination}
use Rattle.operand_texts.specs.Texts.{code_text, region_text, destination_region_text, general_text, operand_text, destination_text}
use Rattle.operand_texts.proofs.RegionLaws.{Region, region-tells, alone-tells, not-alone-tells}
use Rattle.operand_texts.proofs.GeneralLaws.{general-tells}

-- ---- the words of the tables

vertical-text : (k : ℕ) → k < 8 → word_at (words verticals) k ≡ text "<" ++ (code_text k ++ text ";")
unfolding words word_at code_text digits character_of
vertical-text zero h = refl
vertical-text (suc zero) h = refl
vertical-text (suc (suc zero)) h = refl
vertical-text (suc (suc (suc zero))) h = refl
vertical-text (suc (suc (suc (suc zero)))) h = refl
vertical-text (suc (suc (suc (suc (suc zero))))) h = refl
vertical-text (suc (suc (suc (suc (suc (suc zero)))))) h = refl
vertical-text (suc (suc (suc (suc (suc (suc (suc zero))))))) h = refl
vertical-text (suc (suc (suc (suc (suc (suc (suc (suc k)))))))) h = absurd (omega arith)

width-text : (k : ℕ) → k < 8 → word_at (words widths) k ≡ code_text k ++ text ","
unfolding words word_at code_text digits character_of
width-text zero h = refl
width-text (suc zero) h = refl
width-text (suc (suc zero)) h = refl
width-text (suc (suc (suc zero))) h = refl
width-text (suc (suc (suc (suc zero)))) h = refl
width-text (suc (suc (suc (suc (suc zero))))) h = refl
width-text (suc (suc (suc (suc (suc (suc zero)))))) h = refl
width-text (suc (suc (suc (suc (suc (suc (suc zero))))))) h = refl
width-text (suc (suc (suc (suc (suc (suc (suc (suc k)))))))) h = absurd (omega arith)

stride-text : (k : ℕ) → k < 8 → word_at (words strides) k ≡ code_text k ++ text ">"
unfolding words word_at code_text digits character_of
stride-text zero h = refl
stride-text (suc zero) h = refl
stride-text (suc (suc zero)) h = refl
stride-text (suc (suc (suc zero))) h = refl
stride-text (suc (suc (suc (suc zero)))) h = refl
stride-text (suc (suc (suc (suc (suc zero))))) h = refl
stride-text (suc (suc (suc (suc (suc (suc zero)))))) h = refl
stride-text (suc (suc (suc (suc (suc (suc (suc zero))))))) h = refl
stride-text (suc (suc (suc (suc (suc (suc (suc (suc k)))))))) h = absurd (omega arith)

-- the first words of a destination: V as in a source, then H alone
first-text : (k : ℕ) → k < 8 → word_at (words firsts) k ≡ word_at (words verticals) k
unfolding words word_at
first-text zero h = refl
first-text (suc zero) h = refl
first-text (suc (suc zero)) h = refl
first-text (suc (suc (suc zero))) h = refl
first-text (suc (suc (suc (suc zero)))) h = refl
first-text (suc (suc (suc (suc (suc zero))))) h = refl
first-text (suc (suc (suc (suc (suc (suc zero)))))) h = refl
first-text (suc (suc (suc (suc (suc (suc (suc zero))))))) h = refl
first-text (suc (suc (suc (suc (suc (suc (suc (suc k)))))))) h = absurd (omega arith)

alone-text : (k : ℕ) → (k ≡ 0 → ⊥) → k < 8 → word_at (words firsts) (7 + k) ≡ text "<" ++ (code_text k ++ text ">")
unfolding words word_at code_text digits character_of
alone-text zero n h = absurd (n refl)
alone-text (suc zero) n h = refl
alone-text (suc (suc zero)) n h = refl
alone-text (suc (suc (suc zero))) n h = refl
alone-text (suc (suc (suc (suc zero)))) n h = refl
alone-text (suc (suc (suc (suc (suc zero))))) n h = refl
alone-text (suc (suc (suc (suc (suc (suc zero)))))) n h = refl
alone-text (suc (suc (suc (suc (suc (suc (suc zero))))))) n h = refl
alone-text (suc (suc (suc (suc (suc (suc (suc (suc k)))))))) n h = absurd (omega arith)

-- ---- regions

joined : (v w h : List ℕ) → (text "<" ++ (v ++ text ";")) ++ ((w ++ text ",") ++ (h ++ text ">")) ≡ text "<" ++ (v ++ (text ";" ++ (w ++ (text "," ++ (h ++ text ">")))))
joined v w h =
    ap (λ (t : List ℕ). text "<" ++ t) (append_assoc v (text ";") ((w ++ text ",") ++ (h ++ text ">"))
    ∙ ap (λ (t : List ℕ). v ++ (text ";" ++ t)) (append_assoc w (text ",") (h ++ text ">")))

three-words : (v w h : ℕ) → v < 8 → w < 8 → h < 8 →
    word_at (words verticals) v ++ (word_at (words widths) w ++ word_at (words strides) h) ≡ text "<" ++ (code_text v ++ (text ";" ++ (code_text w ++ (text "," ++ (code_text h ++ text ">")))))
three-words v w h x y z =
    ap (λ (t : List ℕ). t ++ (word_at (words widths) w ++ word_at (words strides) h)) (vertical-text v x)
    ∙ ap (λ (t : List ℕ). (text "<" ++ (code_text v ++ text ";")) ++ (t ++ word_at (words strides) h)) (width-text w y)
    ∙ ap (λ (t : List ℕ). (text "<" ++ (code_text v ++ text ";")) ++ ((code_text w ++ text ",") ++ t)) (stride-text h z)
    ∙ joined (code_text v) (code_text w) (code_text h)

pub source-print : (r : ℕ) → source_region.print r ≡ word_at (words verticals) (r % 16) ++ (word_at (words widths) (r / 16 % 16) ++ word_at (words strides) (r / 256 % 16))
unfolding source_region through pair one_of
source-print r = refl

source-region-prints : (r : ℕ) → region_fits r ≡ true → source_region.print r ≡ region_text r
unfolding source_region through pair one_of region_text
source-region-prints r g = let t = region-tells r g in three-words (r % 16) (r / 16 % 16) (r / 256 % 16) t.vertical t.width (omega (arith, t.stride))

-- `n>` is the first word of both tables
behind-print : (v w h : ℕ) → (v ≡ 0 → w ≡ 0 → h ≡ 0) → (stride_behind v w).print h ≡ word_at (words strides) h
unfolding stride_behind one_of words word_at
behind-print v w h g = told (eqb v 0 && eqb w 0) refl
  where
    told : (b : Bool) → (eqb v 0 && eqb w 0) ≡ b → (cond b (table null_stride) (table strides)).print h ≡ word_at (words strides) h
    told true e =
        let z = g (eqb-true v 0 (both_left (eqb v 0) (eqb w 0) e)) (eqb-true w 0 (both_right (eqb v 0) (eqb w 0) e)) in
        ap (λ (x : ℕ). word_at (words null_stride) x) z ∙ ap (λ (x : ℕ). word_at (words strides) x) (sym z)
    told false e = refl

-- what the text of a destination's region is made of
pub alone-print : (r : ℕ) → (eqb (r % 256) 0 && not (eqb (r / 256) 0)) ≡ true → destination_region.print r ≡ word_at (words firsts) (7 + r / 256)
unfolding destination_region through pair width_and_stride blank one_of
alone-print r e = rw (e, le-ltb (7 + r / 256) 8 (least (alone-tells r e).1)) (append-nil (word_at (words firsts) (7 + r / 256)))
  where
    least : (r / 256 ≡ 0 → ⊥) → 8 ≤ 7 + r / 256
    least n = omega (arith, n)

pub three-print : (r : ℕ) → (eqb (r % 256) 0 && not (eqb (r / 256) 0)) ≡ false → r % 16 < 8 →
    destination_region.print r ≡ word_at (words firsts) (r % 16) ++ (word_at (words widths) (r / 16 % 16) ++ (stride_behind (r % 16) (r / 16 % 16)).print (r / 256 % 16))
unfolding destination_region through pair width_and_stride one_of
three-print r e h = rw (e, lt-ltb (r % 16) 8 h)

-- H alone is asked for by the fields in `Texts`
text-alone : (r : ℕ) → r % 256 ≡ 0 → (r / 256 % 16 ≡ 0 → ⊥) → destination_region_text r ≡ text "<" ++ (code_text (r / 256 % 16) ++ text ">")
unfolding destination_region_text
text-alone r h n = rw (eq-eqb (r % 16) 0 (omega (arith, h)), eq-eqb (r / 16 % 16) 0 (omega (arith, h)), ne_eqb (r / 256 % 16) 0 n)

text-three : (r : ℕ) → (r % 256 ≡ 0 → r / 256 ≡ 0) → destination_region_text r ≡ region_text r
unfolding destination_region_text
text-three r n = told (eqb (r % 16) 0) refl (eqb (r / 16 % 16) 0) refl (eqb (r / 256 % 16) 0) refl
  where
    told : (a : Bool) → eqb (r % 16) 0 ≡ a → (b : Bool) → eqb (r / 16 % 16) 0 ≡ b → (c : Bool) → eqb (r / 256 % 16) 0 ≡ c → cond (a && (b && not c)) (text "<" ++ (code_text (r / 256 % 16) ++ text ">")) (region_text r) ≡ region_text r
    told false e b f c g = refl
    told true e false f c g = refl
    told true e true f true g = refl
    told true e true f false g =
        let z = n (omega (arith, eqb-true (r % 16) 0 e, eqb-true (r / 16 % 16) 0 f)) in
        absurd (eqb-false (r / 256 % 16) 0 g (omega (arith, z)))

destination-region-prints : (r : ℕ) → region_fits r ≡ true → destination_region.print r ≡ destination_region_text r
destination-region-prints r g = told (eqb (r % 256) 0 && not (eqb (r / 256) 0)) refl (region-tells r g)
  where
    told : (b : Bool) → (eqb (r % 256) 0 && not (eqb (r / 256) 0)) ≡ b → Region r → destination_region.print r ≡ destination_region_text r
    told true e t =
        let k = alone-tells r e in
        let same : r / 256 % 16 ≡ r / 256 = omega (arith, t.stride) in
        alone-print r e ∙ alone-text (r / 256) k.1 t.stride ∙ ap (λ (x : ℕ). text "<" ++ (code_text x ++ text ">")) (sym same) ∙ sym (text-alone r k.0 (λ z. k.1 (sym same ∙ z)))
    told false e t =
        let n = not-alone-tells r e in
        three-print r e t.vertical
        ∙ ap (λ (x : List ℕ). x ++ (word_at (words widths) (r / 16 % 16) ++ (stride_behind (r % 16) (r / 16 % 16)).print (r / 256 % 16))) (first-text (r % 16) t.vertical)
        ∙ ap (λ (x : List ℕ). word_at (words verticals) (r % 16) ++ (word_at (words widths) (r / 16 % 16) ++ x)) (behind-print (r % 16) (r / 16 % 16) (r / 256 % 16) (λ a b. omega (arith, n (omega (arith, a, b)))))
        ∙ sym (source-print r)
        ∙ source-region-prints r g
        ∙ sym (text-three r n)

-- ---- operands

glued : (a p z t y : List ℕ) → y ≡ z ++ t → (a ++ p) ++ y ≡ (a ++ (p ++ z)) ++ t
glued a p z t y e = append_assoc a p y ∙ ap (λ (x : List ℕ). a ++ (p ++ x)) e ∙ ap (λ (x : List ℕ). a ++ x) (sym (append_assoc p z t)) ∙ sym (append_assoc a (p ++ z) t)

general-prints : (region : Format ℕ) (g : General) (t : List ℕ) → region.print g.region ≡ t → text "v" ++ (general region).print g ≡ general_text g ++ t
unfolding general general_parts decimal after through pair number one_of words word_at general_text
general-prints region g t e =
    let i = digits_of 10 g.index in
    let r = digits_of 10 g.row in
    let c = digits_of 10 g.column in
    ap (λ (x : List ℕ). text "v" ++ x)
    (glued i (text "(") (r ++ (text "," ++ (c ++ text ")"))) t ((r ++ text ",") ++ ((c ++ text ")") ++ region.print g.region))
    (glued r (text ",") (c ++ text ")") t ((c ++ text ")") ++ region.print g.region) (ap (λ (x : List ℕ). (c ++ text ")") ++ x) e)))

pub source-prints : (o : Operand) → operand_fits o ≡ true → source.print o ≡ operand_text o
unfolding source formed form_of general_operand immediate_operand as_general as_immediate through pair one_of words word_at operand_fits operand_text
source-prints (operand.General g) h = general-prints source_region g (region_text g.region) (source-region-prints g.region (general-tells g h).region)
source-prints (operand.Immediate i) h = immediate-prints i h

pub destination-prints : (o : Operand) → general_operand_fits o ≡ true → destination.print o ≡ destination_text o
unfolding destination general_operand as_general before through pair one_of words word_at general_operand_fits destination_text
destination-prints (operand.General g) h = general-prints destination_region g (destination_region_text g.region) (destination-region-prints g.region (general-tells g h).region)
destination-prints (operand.Immediate i) h = absurd (true≢false (sym h))
