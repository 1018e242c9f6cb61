-- The line of an instruction is a lawful format: from here on all that reading a line answers is known.
use mathlib.Core.Path.{◌≡◌, refl, sym}
use mathlib.Core.Bool.{true, ◌&&◌, true≢false}
use Prim.Native.Nat.{ℕ, zero, suc, ◌<◌}
use native.Mathlib.Omega.{arith}
use lib.Dec.{eqb}
use borrow.Author.Tests.{eqb-true}
use Rattle.formats.specs.Format.{pair, through}
use Rattle.formats.specs.Words.{words, one_of}
use Rattle.formats.proofs.Tests.{both, both_left, both_right}
use Rattle.formats.proofs.Law.{Lawful, free}
use Rattle.formats.proofs.Following.{Matches, follows-free, follows-begins, begins-pair}
use Rattle.formats.proofs.Combining.{pair-lawful, through-lawful, cond-lawful}
use Rattle.formats.proofs.TableTests.{sound, opens, size, table-under}
use Rattle.formats.proofs.WordLaws.{table-lawful, begins-table}
use Rattle.decoder.specs.declared.Instruction.{Instruction}
use Rattle.decoder.specs.declared.Instruction.TheVariants as instruction
use Rattle.control_texts.specs.Mirror.Predicate.{predicate_fits, predicate}
use Rattle.formats.proofs.PartLaws.{in_table}
use Rattle.control_texts.proofs.PredicateLaws.{bracket, predicate-lawful}
use Rattle.lines.specs.Mirror.Bodies.{shl_fits, shl, gather_fits, gather, scatter_fits, scatter, raw_send_fits, raw_send}
use Rattle.lines.specs.Mirror.Line.{names, name_of, pred_of, body, named, body_fits, line_fits, line}
use Rattle.line_parts.proofs.EndLaws.{goes_on}
use Rattle.lines.proofs.BodiesLaws.{shl-lawful, gather-lawful, scatter-lawful, raw-send-lawful}

body-lawful : (pred name : ℕ) → Lawful (body pred name) goes_on
unfolding body
body-lawful pred name =
    cond-lawful (eqb name 0) (shl-lawful pred) (cond-lawful (eqb name 1) (gather-lawful pred) (cond-lawful (eqb name 2) (scatter-lawful pred) (raw-send-lawful pred)))

named-lawful : (pred : ℕ) → Lawful (named pred) goes_on
unfolding named sound
named-lawful pred = pair-lawful (table-lawful names free refl) (λ name. body-lawful pred name) follows-free

-- ---- what stands behind a name is of the instruction that has this name

record Own (pred name : ℕ) (i : Instruction) : Type 0 where
  predicate : pred_of i ≡ pred
  called : name_of i ≡ name
  fits : body_fits pred i ≡ true

shl-own : (pred : ℕ) (i : Instruction) → (shl pred).good i ≡ true → Own pred 0 i
unfolding shl through shl_fits pred_of name_of body_fits
shl-own pred (instruction.Shl x) h = record { predicate = eqb-true x.control.pred pred (both_left _ _ h); called = refl; fits = h }
shl-own pred (instruction.Gather x) h = absurd (true≢false (sym h))
shl-own pred (instruction.Scatter x) h = absurd (true≢false (sym h))
shl-own pred (instruction.RawSend x) h = absurd (true≢false (sym h))

gather-own : (pred : ℕ) (i : Instruction) → (gather pred).good i ≡ true → Own pred 1 i
unfolding gather through gather_fits pred_of name_of body_fits
gather-own pred (instruction.Shl x) h = absurd (true≢false (sym h))
gather-own pred (instruction.Gather x) h = record { predicate = eqb-true x.control.pred pred (both_left _ _ h); called = refl; fits = h }
gather-own pred (instruction.Scatter x) h = absurd (true≢false (sym h))
gather-own pred (instruction.RawSend x) h = absurd (true≢false (sym h))

scatter-own : (pred : ℕ) (i : Instruction) → (scatter pred).good i ≡ true → Own pred 2 i
unfolding scatter through scatter_fits pred_of name_of body_fits
scatter-own pred (instruction.Shl x) h = absurd (true≢false (sym h))
scatter-own pred (instruction.Gather x) h = absurd (true≢false (sym h))
scatter-own pred (instruction.Scatter x) h = record { predicate = eqb-true x.control.pred pred (both_left _ _ h); called = refl; fits = h }
scatter-own pred (instruction.RawSend x) h = absurd (true≢false (sym h))

raw-send-own : (pred : ℕ) (i : Instruction) → (raw_send pred).good i ≡ true → Own pred 3 i
unfolding raw_send through raw_send_fits pred_of name_of body_fits
raw-send-own pred (instruction.Shl x) h = absurd (true≢false (sym h))
raw-send-own pred (instruction.Gather x) h = absurd (true≢false (sym h))
raw-send-own pred (instruction.Scatter x) h = absurd (true≢false (sym h))
raw-send-own pred (instruction.RawSend x) h = record { predicate = eqb-true x.control.pred pred (both_left _ _ h); called = refl; fits = h }

body_own : (pred name : ℕ) (i : Instruction) → name < 4 → (body pred name).good i ≡ true → Own pred name i
unfolding body
body_own pred zero i l h = shl-own pred i h
body_own pred (suc zero) i l h = gather-own pred i h
body_own pred (suc (suc zero)) i l h = scatter-own pred i h
body_own pred (suc (suc (suc zero))) i l h = raw-send-own pred i h
body_own pred (suc (suc (suc (suc name)))) i l h = absurd (omega arith)

body-good : (pred : ℕ) (i : Instruction) → body_fits pred i ≡ true → (named pred).good (name_of i, i) ≡ true
unfolding named body pair name_of body_fits shl gather scatter raw_send through size
body-good pred (instruction.Shl x) h = rw (in_table names 0 (omega arith)) h
body-good pred (instruction.Gather x) h = rw (in_table names 1 (omega arith)) h
body-good pred (instruction.Scatter x) h = rw (in_table names 2 (omega arith)) h
body-good pred (instruction.RawSend x) h = rw (in_table names 3 (omega arith)) h

-- ---- the line

line-into : (pred name : ℕ) (i : Instruction) → predicate_fits pred ≡ true → Own pred name i → (line_fits i ≡ true) × (◌≡◌ {A = ℕ × (ℕ × Instruction)} (pred_of i, (name_of i, i)) (pred, (name, i)))
unfolding line_fits
line-into pred name i h own = rw own.predicate (both (predicate_fits pred) (body_fits pred i) h own.fits, λ l. (pred, (own.called l, i)))

pub line-matches : Matches {A = ℕ × (ℕ × Instruction)} (λ v. v.1.1) (λ i. (pred_of i, (name_of i, i))) line_fits (pair predicate named)
unfolding pair predicate through named line_fits size
line-matches =
    record {
      into = λ v h.
          let g = both_right (predicate_fits v.0) ((one_of (words names)).good v.1.0 && (body v.0 v.1.0).good v.1.1) h in
          let k = table-under names v.1.0 (both_left ((one_of (words names)).good v.1.0) ((body v.0 v.1.0).good v.1.1) g) in
          line-into v.0 v.1.0 v.1.1 (both_left (predicate_fits v.0) _ h) (body_own v.0 v.1.0 v.1.1 k (both_right ((one_of (words names)).good v.1.0) ((body v.0 v.1.0).good v.1.1) g));
      out = λ i h. (both (predicate_fits (pred_of i)) ((named (pred_of i)).good (name_of i, i)) (both_left (predicate_fits (pred_of i)) (body_fits (pred_of i) i) h) (body-good (pred_of i) i (both_right (predicate_fits (pred_of i)) (body_fits (pred_of i) i) h)), refl);
    }

pub line-lawful : Lawful line goes_on
unfolding line named opens
line-lawful =
    through-lawful (pair-lawful predicate-lawful named-lawful (follows-begins (λ pred. begins-pair (λ name. body pred name) (begins-table names bracket refl)))) line-matches

pub line-good : (i : Instruction) → line.good i ≡ line_fits i
unfolding line through
line-good i = refl
