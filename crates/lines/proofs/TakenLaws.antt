-- The fields of each group are taken by the encoder if and only if the texts of the group's parts have them.
use mathlib.Core.Path.{◌≡◌, refl, sym}
use mathlib.Core.List.{List, [], ◌∷◌, ◌++◌}
use mathlib.Core.Logic.{inl, inr}
use mathlib.Core.Bool.{Bool, true, false, cond, ◌&&◌, ◌||◌, true≢false}
use Prim.Native.Nat.{ℕ, suc, ◌/◌, ◌<◌}
use native.Mathlib.Omega.{arith}
use lib.Dec.{ltb, leb, eqb}
use borrow.Author.Tests.{eqb-true, ltb-true, lt-ltb, leb-true, le-leb}
use Rattle.little_endian.specs.LittleEndian.{Bytes}
use Rattle.element_types.specs.Types.{is_listed, has_high_word}
use Rattle.fields.specs.declared.TagRule.TheVariants as tag
use Rattle.fields.specs.declared.ByteRule.TheVariants as byte
use Rattle.fields.specs.declared.WordRule.TheVariants as word
use Rattle.fields.specs.declared.Field.{Field}
use Rattle.fields.specs.declared.Field.TheVariants.{Byte, Word, Dword, Lacking}
use Rattle.fields.specs.Rules.{judged, exec_good, scatter_exec_good, predicate_good, region_good, source_count_good, class_good, tag_good, tag_refusal, byte_refusal, word_refusal}
use Rattle.fields.specs.Layout.{field_refusal, layout_bytes, layout_refusal}
use Rattle.fields.proofs.ExecGood.{judged-good}
use Rattle.fields.proofs.FirstRefusal.{none-refused, good-append, good-one}
use Rattle.fields.specs.Told.{AllGood}
use Rattle.fields.proofs.FieldLaws.{FieldFits, LayoutFits, layout-fits, fits-layout}
use Rattle.operand_fields.specs.declared.General.{General}
use Rattle.operand_fields.specs.declared.Immediate.{Immediate}
use Rattle.operand_fields.specs.declared.Operand.{Operand}
use Rattle.operand_fields.specs.declared.Operand.TheVariants as operand
use Rattle.field_groups.specs.declared.Control.{Control}
use Rattle.operand_fields.specs.declared.Raw.{Raw}
use Rattle.field_groups.specs.declared.Access.{Access}
use Rattle.field_groups.specs.declared.Message.{Message}
use Rattle.field_groups.specs.Layout.{control_fields, access_fields, message_fields}
use Rattle.operand_fields.specs.Layout.{high_field, operand_fields, raw_fields}
use Rattle.formats.proofs.Tests.{both, both_left, both_right}
use Rattle.control_texts.specs.Mirror.Predicate.{predicate_fits}
use Rattle.control_texts.specs.Mirror.Exec.{exec_fits, scatter_exec_fits}
use Rattle.text_parts.specs.Mirror.Raw.{raw_fits}
use Rattle.text_parts.specs.Mirror.Immediate.{immediate_fits}
use Rattle.text_parts.proofs.ImmediateLaws.{Code, listed-code}
use Rattle.operand_texts.specs.Mirror.Region.{region_fits}
use Rattle.operand_texts.specs.Mirror.General.{general_fits}
use Rattle.operand_texts.specs.Mirror.Operand.{general_operand_fits, operand_fits}
use Rattle.line_parts.specs.Mirror.Braces.{gather_braces_fit}
use Rattle.line_parts.specs.Mirror.Parts.{message_fits}

-- a test that holds if and only if the other does
pub record Alike (P Q : Type 0) : Type 0 where
  pub to : P → Q
  pub from : Q → P

-- ---- fields that the encoder takes: none is refused, and each number has its width

abbrev pub Taken : List Field → Type 0
Taken [] = Unit
Taken (f ∷ fs) = ((field_refusal f ≡ 0) × FieldFits f) × Taken fs

pub taken-append : (fs gs : List Field) → Alike (Taken (fs ++ gs)) (Taken fs × Taken gs)
taken-append fs gs = record { to = to fs; from = from fs }
  where
    to : (fs : List Field) → Taken (fs ++ gs) → Taken fs × Taken gs
    to [] h = (tt, h)
    to (f ∷ fs) h = let r = to fs h.1 in ((h.0, r.0), r.1)

    from : (fs : List Field) → Taken fs × Taken gs → Taken (fs ++ gs)
    from [] h = h.1
    from (f ∷ fs) h = (h.0.0, from fs (h.0.1, h.1))

taken-good : (fs : List Field) → Taken fs → AllGood fs
taken-good [] h = tt
taken-good (f ∷ fs) h = (h.0.0, taken-good fs h.1)

taken-fits : (fs : List Field) → Taken fs → LayoutFits fs
taken-fits [] h = tt
taken-fits (f ∷ fs) h = (h.0.1, taken-fits fs h.1)

good-taken : (fs : List Field) → layout_refusal fs ≡ 0 → LayoutFits fs → Taken fs
good-taken [] e h = tt
good-taken (f ∷ fs) e h = let g = good-append (f ∷ []) fs e in ((good-one f g.0, h.0), good-taken fs g.1 h.1)

pub taken-encodes : (fs : List Field) → Alike (Taken fs) ((layout_refusal fs ≡ 0) × Bytes (layout_bytes fs))
taken-encodes fs =
    record {
      to = λ h. (none-refused fs (taken-good fs h), layout-fits fs (taken-fits fs h));
      from = λ h. good-taken fs h.0 (fits-layout fs h.0 h.1);
    }

-- these fields are taken if and only if Q holds
pub record TakenIf (fs : List Field) (Q : Type 0) : Type 0 where
  pub to : Taken fs → Q
  pub from : Q → Taken fs

-- ---- tests

pub good-judged : (b : Bool) → b ≡ true → judged b 3 ≡ 0
unfolding judged
good-judged b e = rw e

-- a judged number of a byte
byte-alike : (v : ℕ) (good : Bool) → Alike ((judged good 3 ≡ 0) × (v < 256)) ((ltb v 256 && good) ≡ true)
byte-alike v good =
    record {
      to = λ h. both (ltb v 256) good (lt-ltb v 256 h.1) (judged-good good h.0);
      from = λ h. (good-judged good (both_right (ltb v 256) good h), ltb-true v 256 (both_left (ltb v 256) good h));
    }

word-alike : (v : ℕ) (good : Bool) → Alike ((judged good 3 ≡ 0) × (v < 65536)) ((ltb v 65536 && good) ≡ true)
word-alike v good =
    record {
      to = λ h. both (ltb v 65536) good (lt-ltb v 65536 h.1) (judged-good good h.0);
      from = λ h. (good-judged good (both_right (ltb v 65536) good h), ltb-true v 65536 (both_left (ltb v 65536) good h));
    }

most : (v n : ℕ) → leb v n ≡ true → v < suc n
most v n e = omega (arith, leb-true v n e)

at_most : (v n : ℕ) → v < suc n → leb v n ≡ true
at_most v n h = le-leb v n (omega (arith, h))

-- ---- exec byte and predicate

pub control-alike : (x : Control) → TakenIf (control_fields byte.Exec x) ((exec_fits x.exec ≡ true) × (predicate_fits x.pred ≡ true))
unfolding control_fields field_refusal byte_refusal word_refusal exec_fits predicate_fits
control-alike x =
    let e = byte-alike x.exec (exec_good x.exec) in
    let p = word-alike x.pred (predicate_good x.pred) in
    record { to = λ h. (e.to h.0, p.to h.1.0); from = λ h. (e.from h.0, (p.from h.1, tt)) }

pub scatter-control-alike : (x : Control) → TakenIf (control_fields byte.ScatterExec x) ((scatter_exec_fits x.exec ≡ true) × (predicate_fits x.pred ≡ true))
unfolding control_fields field_refusal byte_refusal word_refusal scatter_exec_fits predicate_fits
scatter-control-alike x =
    let e = byte-alike x.exec (scatter_exec_good x.exec) in
    let p = word-alike x.pred (predicate_good x.pred) in
    record { to = λ h. (e.to h.0, p.to h.1.0); from = λ h. (e.from h.0, (p.from h.1, tt)) }

-- ---- a raw operand

pub raw-alike : (r : Raw) → TakenIf (raw_fields r) (raw_fits r ≡ true)
unfolding raw_fields field_refusal word_refusal raw_fits
raw-alike r =
    record {
      to = λ h. both (leb r.index 65535) (leb r.offset 65535) (at_most r.index 65535 h.0.1) (at_most r.offset 65535 h.1.0.1);
      from = λ h. ((refl, most r.index 65535 (both_left (leb r.index 65535) (leb r.offset 65535) h)), ((refl, most r.offset 65535 (both_right (leb r.index 65535) (leb r.offset 65535) h)), tt));
    }

-- ---- a General operand and an immediate

region-small : (v : ℕ) → region_good v ≡ true → v < 65536
unfolding region_good
region-small v h = let e = eqb-true (v / 4096) 0 (both_left _ _ h) in omega (arith, e)

-- what both have behind their tag
general-alike : (g : General) → TakenIf (Word word.Free g.index ∷ Byte byte.Free g.row ∷ Byte byte.Free g.column ∷ Word word.Region g.region ∷ []) (general_fits g ≡ true)
unfolding field_refusal byte_refusal word_refusal general_fits region_fits
general-alike g =
    let a = leb g.index 65535 in
    let b = leb g.row 255 in
    let c = leb g.column 255 in
    let d = region_good g.region in
    record {
      to = λ h. both a (b && (c && d)) (at_most g.index 65535 h.0.1) (both b (c && d) (at_most g.row 255 h.1.0.1) (both c d (at_most g.column 255 h.1.1.0.1) (judged-good d h.1.1.1.0.0)));
      from = λ h.
          let i = both_right a (b && (c && d)) h in
          let j = both_right b (c && d) i in
          let k = both_right c d j in
          ((refl, most g.index 65535 (both_left a (b && (c && d)) h)), ((refl, most g.row 255 (both_left b (c && d) i)), ((refl, most g.column 255 (both_left c d j)), ((good-judged d k, region-small g.region k), tt))));
    }

listed_small : (code : ℕ) → is_listed code ≡ true → code < 256
listed_small code h = on (listed-code code h)
  where
    on : Code code → code < 256
    on (inl l) = omega (arith, l)
    on (inr (inl e)) = omega (arith, e)
    on (inr (inr e)) = omega (arith, e)

high-alike : (wide : Bool) (high : ℕ) → Alike ((field_refusal (cond wide (Dword high) (Lacking high)) ≡ 0) × FieldFits (cond wide (Dword high) (Lacking high))) ((ltb high 4294967296 && (wide || eqb high 0)) ≡ true)
unfolding field_refusal
high-alike true high =
    record {
      to = λ h. both (ltb high 4294967296) true (lt-ltb high 4294967296 h.1) refl;
      from = λ h. (refl, ltb-true high 4294967296 (both_left (ltb high 4294967296) true h));
    }
high-alike false high =
    record {
      to = λ h. both (ltb high 4294967296) (eqb high 0) (lt-ltb high 4294967296 h.1) (judged-good (eqb high 0) h.0);
      from = λ h. (good-judged (eqb high 0) (both_right (ltb high 4294967296) (eqb high 0) h), ltb-true high 4294967296 (both_left (ltb high 4294967296) (eqb high 0) h));
    }

immediate-alike : (i : Immediate) → TakenIf (Byte byte.ImmediateType i.code ∷ Dword i.low ∷ high_field i.code i.high ∷ []) (immediate_fits i ≡ true)
unfolding field_refusal byte_refusal high_field immediate_fits
immediate-alike i =
    let a = is_listed i.code in
    let b = ltb i.low 4294967296 in
    let c = ltb i.high 4294967296 && (has_high_word i.code || eqb i.high 0) in
    let w = high-alike (has_high_word i.code) i.high in
    record {
      to = λ h. both a (b && c) (judged-good a h.0.0) (both b c (lt-ltb i.low 4294967296 h.1.0.1) (w.to h.1.1.0));
      from = λ h.
          let l = both_left a (b && c) h in
          let r = both_right a (b && c) h in
          ((good-judged a l, listed_small i.code l), ((refl, ltb-true i.low 4294967296 (both_left b c r)), (w.from (both_right b c r), tt)));
    }

pub destination-alike : (o : Operand) → TakenIf (operand_fields tag.Destination o) (general_operand_fits o ≡ true)
unfolding operand_fields general_operand_fits field_refusal byte_refusal tag_refusal tag_good class_good judged
destination-alike (operand.General g) = let a = general-alike g in record { to = λ h. a.to h.1; from = λ h. ((refl, omega arith), a.from h) }
destination-alike (operand.Immediate i) = record { to = λ h. absurd (omega (arith, h.0.0)); from = λ h. absurd (true≢false (sym h)) }

pub source-alike : (o : Operand) → TakenIf (operand_fields tag.Source o) (operand_fits o ≡ true)
unfolding operand_fields operand_fits field_refusal byte_refusal tag_refusal tag_good class_good judged
source-alike (operand.General g) = let a = general-alike g in record { to = λ h. a.to h.1; from = λ h. ((refl, omega arith), a.from h) }
source-alike (operand.Immediate i) = let a = immediate-alike i in record { to = λ h. a.to h.1; from = λ h. ((refl, omega arith), a.from h) }

pub scalar-alike : (o : Operand) → TakenIf (operand_fields tag.Scalar o) (operand_fits o ≡ true)
unfolding operand_fields operand_fits field_refusal byte_refusal tag_refusal tag_good class_good judged
scalar-alike (operand.General g) = let a = general-alike g in record { to = λ h. a.to h.1; from = λ h. ((refl, omega arith), a.from h) }
scalar-alike (operand.Immediate i) = let a = immediate-alike i in record { to = λ h. a.to h.1; from = λ h. ((refl, omega arith), a.from h) }

-- ---- what a gather and a send have besides

pub access-alike : (x : Access) → TakenIf (access_fields x) ((ltb x.num_blocks 3 ≡ true) × ((leb x.surface 255 ≡ true) × (gather_braces_fit (x.block_size, x.scale) ≡ true)))
unfolding access_fields field_refusal byte_refusal word_refusal gather_braces_fit
access-alike x =
    let a = leb x.block_size 255 in
    let b = leb x.scale 65535 in
    record {
      to = λ h. (judged-good (ltb x.num_blocks 3) h.1.0.0, (at_most x.surface 255 h.1.1.1.0.1, both a b (at_most x.block_size 255 h.0.1) (at_most x.scale 65535 h.1.1.0.1)));
      from = λ h.
          ((refl, most x.block_size 255 (both_left a b h.1.1)), ((good-judged (ltb x.num_blocks 3) h.0, omega (arith, ltb-true x.num_blocks 3 h.0)), ((refl, most x.scale 65535 (both_right a b h.1.1)), ((refl, most x.surface 255 h.1.0), tt))));
    }

count_small : (n : ℕ) → source_count_good n ≡ true → n < 256
unfolding source_count_good
count_small n h = omega (arith, leb-true n 15 (both_right (leb 1 n) (leb n 15) h))

pub message-alike : (x : Message) → TakenIf (message_fields x) (message_fits x.extended x.num_src x.num_dst ≡ true)
unfolding message_fields field_refusal byte_refusal message_fits
message-alike x =
    let a = leb x.extended 4294967295 in
    let b = source_count_good x.num_src in
    let c = leb x.num_dst 16 in
    record {
      to = λ h. both a (b && c) (at_most x.extended 4294967295 h.0.1) (both b c (judged-good b h.1.0.0) (judged-good c h.1.1.0.0));
      from = λ h.
          let r = both_right a (b && c) h in
          let d = both_right b c r in
          ((refl, most x.extended 4294967295 (both_left a (b && c) h)), ((good-judged b (both_left b c r), count_small x.num_src (both_left b c r)), ((good-judged c d, omega (arith, leb-true x.num_dst 16 d)), tt)));
    }
