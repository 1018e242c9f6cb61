-- What stands behind each instruction's name is a lawful format.
use mathlib.Core.Path.{◌≡◌, refl, sym, ap, ◌∙◌}
use mathlib.Core.Bool.{Bool, true, false, ◌&&◌, true≢false}
use Prim.Native.Nat.{ℕ, ◌+◌, ◌-◌, ◌≤◌}
use native.Mathlib.Omega.{arith}
use lib.Dec.{ltb, leb, eqb}
use borrow.Author.Tests.{eqb-true, eq-eqb, ltb-true, ltb-false, lt-ltb, le-ltb}
use Rattle.formats.specs.Format.{Format, pair, through}
use Rattle.formats.specs.Words.{table, before, after}
use Rattle.formats.specs.Mirror.Digits.{is_digit}
use Rattle.formats.proofs.Tests.{both, both_left, both_right}
use Rattle.formats.proofs.Law.{Lawful, free, weaken, keep-more}
use Rattle.formats.proofs.Following.{Matches, follows-free}
use Rattle.formats.proofs.Combining.{pair-lawful, through-lawful}
use Rattle.formats.proofs.TableTests.{sound, opens, single, size, table-good}
use Rattle.formats.proofs.WordLaws.{table-lawful}
use Rattle.formats.proofs.AroundLaws.{after-lawful}
use Rattle.fields.specs.Rules.{channels_good}
use Rattle.operand_fields.specs.declared.Raw.{Raw}
use Rattle.operand_fields.specs.declared.Operand.{Operand}
use Rattle.decoder.specs.declared.Instruction.{Instruction}
use Rattle.decoder.specs.declared.Instruction.TheVariants as instruction
use Rattle.control_texts.specs.Mirror.Exec.{exec_from, exec, scatter_exec_fits, scatter_exec}
use Rattle.control_texts.proofs.ExecLaws.{exec-lawful, scatter-exec-lawful}
use Rattle.operand_texts.specs.Mirror.Operand.{general_operand, source, destination}
use Rattle.line_parts.specs.Mirror.Braces.{gather_braces, scatter_braces}
use Rattle.line_parts.specs.Mirror.Parts.{space, scalar_and_raws_fit, blocks, send_endings}
use Rattle.lines.specs.Mirror.Bodies.{shl_parts, shl_to, shl_from, shl_fits, shl, gather_parts, gather_to, gather_from, gather_fits, gather, letters, scatter_parts, scatter_to, scatter_from, scatter_fits, scatter, raw_send_parts, raw_send_to, raw_send_from, raw_send_fits, raw_send}
use Rattle.operand_texts.proofs.OperandLaws.{source-lawful, destination-lawful}
use Rattle.line_parts.proofs.EndLaws.{goes_on, no_digit}
use Rattle.line_parts.proofs.BracesLaws.{gather-braces-lawful, gather-braces-follow, scatter-braces-lawful, scatter-braces-follow}
use Rattle.line_parts.proofs.PartsLaws.{scalar-and-raws-lawful, scalar-and-raws-good, surface-lawful, surface-good, message-lawful, message-good}

-- ---- a body's values and the instructions of its kind, where its test asks for the predicate's word and what its parts ask

module _ {A : Type 0} (to : ℕ → A → Instruction) (from : Instruction → A) (fits : ℕ → Instruction → Bool) (parts : Format A)
    (good-is : (pred : ℕ) (v : A) → fits pred (to pred v) ≡ (eqb pred pred && parts.good v)) (pred : ℕ) where
  own-fits : (v : A) → parts.good v ≡ true → fits pred (to pred v) ≡ true
  own-fits v h = good-is pred v ∙ both (eqb pred pred) (parts.good v) (eq-eqb pred pred refl) h

  own_back : (i : Instruction) (p : ℕ) → p ≡ pred → to p (from i) ≡ i → fits pred i ≡ true → (parts.good (from i) ≡ true) × (to pred (from i) ≡ i)
  own_back i p e same h =
      let back : to pred (from i) ≡ i = ap (λ (q : ℕ). to q (from i)) (sym e) ∙ same in
      (both_right (eqb pred pred) (parts.good (from i)) (sym (good-is pred (from i)) ∙ (ap (fits pred) back ∙ h)), back)

-- ---- SHL

shl-parts-lawful : Lawful shl_parts free
unfolding shl_parts sound single opens
shl-parts-lawful =
    pair-lawful exec-lawful (λ _.
    pair-lawful (after-lawful space refl refl refl destination-lawful) (λ _.
    pair-lawful (after-lawful space refl refl refl source-lawful) (λ _. source-lawful) follows-free) follows-free) follows-free

shl-good : (pred : ℕ) (v : ℕ × (Operand × (Operand × Operand))) → shl_fits pred (shl_to pred v) ≡ (eqb pred pred && shl_parts.good v)
unfolding shl_parts shl_fits pair through before after exec exec_from source destination general_operand
shl-good pred v = refl

pub shl-matches : (pred : ℕ) → Matches (shl_to pred) shl_from (shl_fits pred) shl_parts
unfolding shl_from shl_fits
shl-matches pred = record { into = λ v h. (own-fits shl_to shl_from shl_fits shl_parts shl-good pred v h, refl); out = out }
  where
    out : (i : Instruction) → shl_fits pred i ≡ true → (shl_parts.good (shl_from i) ≡ true) × (shl_to pred (shl_from i) ≡ i)
    out (instruction.Shl x) h = own_back shl_to shl_from shl_fits shl_parts shl-good pred (instruction.Shl x) x.control.pred (eqb-true x.control.pred pred (both_left _ _ h)) refl h
    out (instruction.Gather x) h = absurd (true≢false (sym h))
    out (instruction.Scatter x) h = absurd (true≢false (sym h))
    out (instruction.RawSend x) h = absurd (true≢false (sym h))

pub shl-lawful : (pred : ℕ) → Lawful (shl pred) goes_on
unfolding shl
shl-lawful pred = weaken goes_on (through-lawful shl-parts-lawful (shl-matches pred))

-- ---- GATHER_SCALED

gather-parts-lawful : Lawful gather_parts goes_on
unfolding gather_parts sound
gather-parts-lawful =
    pair-lawful (table-lawful blocks free refl) (λ _.
    pair-lawful exec-lawful (λ _.
    pair-lawful surface-lawful (λ _.
    pair-lawful scalar-and-raws-lawful (λ _. gather-braces-lawful) gather-braces-follow) follows-free) follows-free) follows-free

gather-good : (pred : ℕ) (v : ℕ × (ℕ × (ℕ × ((Operand × (Raw × Raw)) × (ℕ × ℕ))))) → gather_fits pred (gather_to pred v) ≡ (eqb pred pred && gather_parts.good v)
unfolding gather_parts gather_fits pair through exec exec_from gather_braces size
gather-good pred v = rw (table-good blocks v.0, surface-good v.1.1.0, scalar-and-raws-good v.1.1.1.0)

pub gather-matches : (pred : ℕ) → Matches (gather_to pred) gather_from (gather_fits pred) gather_parts
unfolding gather_from gather_fits
gather-matches pred = record { into = λ v h. (own-fits gather_to gather_from gather_fits gather_parts gather-good pred v h, refl); out = out }
  where
    out : (i : Instruction) → gather_fits pred i ≡ true → (gather_parts.good (gather_from i) ≡ true) × (gather_to pred (gather_from i) ≡ i)
    out (instruction.Shl x) h = absurd (true≢false (sym h))
    out (instruction.Gather x) h = own_back gather_to gather_from gather_fits gather_parts gather-good pred (instruction.Gather x) x.control.pred (eqb-true x.control.pred pred (both_left _ _ h)) refl h
    out (instruction.Scatter x) h = absurd (true≢false (sym h))
    out (instruction.RawSend x) h = absurd (true≢false (sym h))

pub gather-lawful : (pred : ℕ) → Lawful (gather pred) goes_on
unfolding gather
gather-lawful pred = through-lawful gather-parts-lawful (gather-matches pred)

-- ---- SVM_SCATTER4_SCALED

scatter-parts-lawful : Lawful scatter_parts goes_on
unfolding scatter_parts sound
scatter-parts-lawful =
    pair-lawful (table-lawful letters free refl) (λ _.
    pair-lawful scatter-exec-lawful (λ _.
    pair-lawful scalar-and-raws-lawful (λ _. scatter-braces-lawful) scatter-braces-follow) follows-free) follows-free

-- the channels of each word
letters-good : (k : ℕ) → channels_good (k + 1) ≡ (table letters).good k
unfolding channels_good size
letters-good k = rw (table-good letters k, lt-ltb 0 (k + 1) (omega arith)) (told (ltb k 15) refl)
  where
    told : (b : Bool) → ltb k 15 ≡ b → ltb (k + 1) 16 ≡ b
    told true e = lt-ltb (k + 1) 16 (omega (arith, ltb-true k 15 e))
    told false e = le-ltb (k + 1) 16 (omega (arith, ltb-false k 15 e))

channels-some : (c : ℕ) → channels_good c ≡ true → 1 ≤ c
unfolding channels_good
channels-some c h = ltb-true 0 c (both_left (ltb 0 c) (ltb c 16) h)

scatter-good : (pred : ℕ) (v : ℕ × (ℕ × ((Operand × (Raw × Raw)) × ℕ))) → scatter_fits pred (scatter_to pred v) ≡ (eqb pred pred && scatter_parts.good v)
unfolding scatter_parts scatter_fits pair through scatter_exec exec_from scatter_braces
scatter-good pred v = rw (letters-good v.0, scalar-and-raws-good v.1.1.0)

pub scatter-matches : (pred : ℕ) → Matches (scatter_to pred) scatter_from (scatter_fits pred) scatter_parts
unfolding scatter_from scatter_fits
scatter-matches pred = record { into = λ v h. (own-fits scatter_to scatter_from scatter_fits scatter_parts scatter-good pred v h, back v); out = out }
  where
    back : (v : ℕ × (ℕ × ((Operand × (Raw × Raw)) × ℕ))) → scatter_from (scatter_to pred v) ≡ v
    back v = let e : v.0 + 1 - 1 ≡ v.0 = omega arith in λ l. (e l, v.1)

    out : (i : Instruction) → scatter_fits pred i ≡ true → (scatter_parts.good (scatter_from i) ≡ true) × (scatter_to pred (scatter_from i) ≡ i)
    out (instruction.Shl x) h = absurd (true≢false (sym h))
    out (instruction.Gather x) h = absurd (true≢false (sym h))
    out (instruction.Scatter x) h =
        let rest = scatter_exec_fits x.control.exec && (scalar_and_raws_fit x.address x.element_offset x.source && leb x.scale 65535) in
        let g : 1 ≤ x.channels = channels-some x.channels (both_left (channels_good x.channels) rest (both_right (eqb x.control.pred pred) (channels_good x.channels && rest) h)) in
        let some : x.channels - 1 + 1 ≡ x.channels = omega (arith, g) in
        own_back scatter_to scatter_from scatter_fits scatter_parts scatter-good pred (instruction.Scatter x) x.control.pred (eqb-true x.control.pred pred (both_left _ _ h))
        (λ l. instruction.Scatter (record { control = x.control; channels = some l; scale = x.scale; address = x.address; element_offset = x.element_offset; source = x.source })) h
    out (instruction.RawSend x) h = absurd (true≢false (sym h))

pub scatter-lawful : (pred : ℕ) → Lawful (scatter pred) goes_on
unfolding scatter
scatter-lawful pred = through-lawful scatter-parts-lawful (scatter-matches pred)

-- ---- RAW_SEND

raw-send-parts-lawful : Lawful raw_send_parts (is_digit 10)
unfolding raw_send_parts sound
raw-send-parts-lawful =
    pair-lawful (table-lawful send_endings free refl) (λ _.
    pair-lawful exec-lawful (λ _.
    pair-lawful message-lawful (λ _. scalar-and-raws-lawful) follows-free) follows-free) follows-free

raw-send-good : (pred : ℕ) (v : ℕ × (ℕ × ((ℕ × (ℕ × ℕ)) × (Operand × (Raw × Raw))))) → raw_send_fits pred (raw_send_to pred v) ≡ (eqb pred pred && raw_send_parts.good v)
unfolding raw_send_parts raw_send_fits pair through exec exec_from size
raw-send-good pred v = rw (table-good send_endings v.0, message-good v.1.1.0, scalar-and-raws-good v.1.1.1)

pub raw-send-matches : (pred : ℕ) → Matches (raw_send_to pred) raw_send_from (raw_send_fits pred) raw_send_parts
unfolding raw_send_from raw_send_fits
raw-send-matches pred = record { into = λ v h. (own-fits raw_send_to raw_send_from raw_send_fits raw_send_parts raw-send-good pred v h, refl); out = out }
  where
    out : (i : Instruction) → raw_send_fits pred i ≡ true → (raw_send_parts.good (raw_send_from i) ≡ true) × (raw_send_to pred (raw_send_from i) ≡ i)
    out (instruction.Shl x) h = absurd (true≢false (sym h))
    out (instruction.Gather x) h = absurd (true≢false (sym h))
    out (instruction.Scatter x) h = absurd (true≢false (sym h))
    out (instruction.RawSend x) h = own_back raw_send_to raw_send_from raw_send_fits raw_send_parts raw-send-good pred (instruction.RawSend x) x.control.pred (eqb-true x.control.pred pred (both_left _ _ h)) refl h

pub raw-send-lawful : (pred : ℕ) → Lawful (raw_send pred) goes_on
unfolding raw_send
raw-send-lawful pred = keep-more no_digit (through-lawful raw-send-parts-lawful (raw-send-matches pred))
