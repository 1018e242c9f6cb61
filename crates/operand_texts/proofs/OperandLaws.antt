-- The texts of sources and of destinations are lawful formats.
use mathlib.Core.Path.{◌≡◌, refl, sym}
use mathlib.Core.Bool.{Bool, true, false, cond, ◌&&◌, true≢false}
use Prim.Native.Nat.{ℕ, ◌<◌}
use native.Mathlib.Omega.{arith}
use lib.Dec.{eqb}
use borrow.Author.Tests.{eqb-true, eqb-false}
use Rattle.formats.specs.Text.{text}
use Rattle.formats.specs.Format.{Format, pair, through}
use Rattle.formats.specs.Words.{words, one_of, table}
use Rattle.formats.proofs.Tests.{both, both_left, both_right}
use Rattle.formats.proofs.Law.{Lawful, free}
use Rattle.formats.proofs.Following.{Matches, follows-free}
use Rattle.formats.proofs.Combining.{pair-lawful, through-lawful, cond-lawful}
use Rattle.formats.proofs.TableTests.{sound, size, single, table-under}
use Rattle.formats.proofs.WordLaws.{table-lawful}
use Rattle.formats.proofs.AroundLaws.{before-lawful}
use Rattle.operand_fields.specs.declared.Operand.{Operand}
use Rattle.operand_fields.specs.declared.Operand.TheVariants as operand
use Rattle.text_parts.specs.Mirror.Immediate.{immediate}
use Rattle.formats.proofs.PartLaws.{in_table}
use Rattle.text_parts.proofs.ImmediateLaws.{immediate-lawful}
use Rattle.operand_texts.specs.Mirror.Region.{region_fits, source_region, destination_region}
use Rattle.operand_texts.specs.Mirror.General.{general}
use Rattle.operand_texts.specs.Mirror.Operand.{forms, form_of, as_general, as_immediate, general_operand_fits, immediate_operand_fits, operand_fits, general_operand, immediate_operand, formed, source, destination}
use Rattle.operand_texts.proofs.RegionLaws.{source-region-lawful, destination-region-lawful}
use Rattle.operand_texts.proofs.GeneralLaws.{general-lawful}

-- ---- each form alone

pub source-region-good : (r : ℕ) → source_region.good r ≡ region_fits r
unfolding source_region through
source-region-good r = refl

pub destination-region-good : (r : ℕ) → destination_region.good r ≡ region_fits r
unfolding destination_region through
destination-region-good r = refl

pub general-operand-matches : (region : Format ℕ) → Matches operand.General as_general general_operand_fits (general region)
unfolding general through as_general general_operand_fits
general-operand-matches region = record { into = λ g h. (h, refl); out = out }
  where
    out : (o : Operand) → general_operand_fits o ≡ true → ((general region).good (as_general o) ≡ true) × (operand.General (as_general o) ≡ o)
    out (operand.General g) h = (h, refl)
    out (operand.Immediate i) h = absurd (true≢false (sym h))

general-operand-lawful : (region : Format ℕ) → Lawful region free → ((r : ℕ) → region.good r ≡ region_fits r) → Lawful (general_operand region) free
unfolding general_operand
general-operand-lawful region law is = through-lawful (general-lawful region law is) (general-operand-matches region)

pub immediate-operand-matches : Matches operand.Immediate as_immediate immediate_operand_fits immediate
unfolding immediate through as_immediate immediate_operand_fits
immediate-operand-matches = record { into = λ i h. (h, refl); out = out }
  where
    out : (o : Operand) → immediate_operand_fits o ≡ true → (immediate.good (as_immediate o) ≡ true) × (operand.Immediate (as_immediate o) ≡ o)
    out (operand.General g) h = absurd (true≢false (sym h))
    out (operand.Immediate i) h = (h, refl)

immediate-operand-lawful : Lawful immediate_operand free
unfolding immediate_operand
immediate-operand-lawful = through-lawful immediate-lawful immediate-operand-matches

-- ---- a source, by its form

formed-lawful : (form : ℕ) → Lawful (formed form) free
unfolding formed
formed-lawful form = cond-lawful (eqb form 0) (general-operand-lawful source_region source-region-lawful source-region-good) immediate-operand-lawful

pub source-matches : Matches {A = ℕ × Operand} (λ v. v.1) (λ o. (form_of o, o)) operand_fits (pair (table forms) formed)
unfolding pair formed general_operand immediate_operand through form_of operand_fits general_operand_fits immediate_operand_fits size
source-matches =
    record {
      into = λ v h. into v.0 v.1 (table-under forms v.0 (both_left ((one_of (words forms)).good v.0) ((formed v.0).good v.1) h)) (both_right ((one_of (words forms)).good v.0) ((formed v.0).good v.1) h);
      out = out;
    }
  where
    into : (k : ℕ) (o : Operand) → k < 2 → (formed k).good o ≡ true → (operand_fits o ≡ true) × (◌≡◌ {A = ℕ × Operand} (form_of o, o) (k, o))
    into k o l = told (eqb k 0) refl o
      where
        other : (k ≡ 0 → ⊥) → 1 ≡ k
        other n = omega (arith, n, l)

        told : (b : Bool) → eqb k 0 ≡ b → (o : Operand) → (cond b (general_operand source_region) immediate_operand).good o ≡ true → (operand_fits o ≡ true) × (◌≡◌ {A = ℕ × Operand} (form_of o, o) (k, o))
        told true e (operand.General g) h = (h, λ i. (sym (eqb-true k 0 e) i, operand.General g))
        told true e (operand.Immediate x) h = absurd (true≢false (sym h))
        told false e (operand.General g) h = absurd (true≢false (sym h))
        told false e (operand.Immediate x) h = (h, λ i. (other (eqb-false k 0 e) i, operand.Immediate x))

    out : (o : Operand) → operand_fits o ≡ true → ((one_of (words forms)).good (form_of o) && (formed (form_of o)).good o ≡ true) × (o ≡ o)
    out (operand.General g) h = (both ((one_of (words forms)).good 0) ((formed 0).good (operand.General g)) (in_table forms 0 (omega arith)) h, refl)
    out (operand.Immediate i) h = (both ((one_of (words forms)).good 1) ((formed 1).good (operand.Immediate i)) (in_table forms 1 (omega arith)) h, refl)

pub source-lawful : Lawful source free
unfolding source sound
source-lawful = through-lawful (pair-lawful (table-lawful forms free refl) formed-lawful follows-free) source-matches

-- ---- a destination

pub destination-lawful : Lawful destination free
unfolding destination sound single
destination-lawful = before-lawful (text "v|") refl refl (general-operand-lawful destination_region destination-region-lawful destination-region-good)
