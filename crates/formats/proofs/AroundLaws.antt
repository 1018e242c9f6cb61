-- A word before or after a format keeps it lawful.
use mathlib.Core.Path.{◌≡◌, refl}
use mathlib.Core.List.{List}
use mathlib.Core.Bool.{Bool, true}
use Prim.Native.Nat.{ℕ}
use Rattle.formats.specs.Format.{Out, got, stop, on_out, Format, pair, through}
use Rattle.formats.specs.Words.{words, one_of, table, before, after}
use Rattle.formats.specs.Told.{ended_by}
use Rattle.formats.proofs.Tests.{both, both_left, both_right}
use Rattle.formats.proofs.Law.{Lawful, free}
use Rattle.formats.proofs.Following.{Matches, Begins, follows-free, follows-begins, begins-pair, begins-through}
use Rattle.formats.proofs.Combining.{pair-lawful, through-lawful}
use Rattle.formats.proofs.TableTests.{sound, opens, single, only_one, one-there}
use Rattle.formats.proofs.WordLaws.{table-lawful, begins-table}

pub matches-before : {A : Type 0} (p : List ℕ) (f : Format A) → single p ≡ true → Matches {A = ℕ × A} (λ v. v.1) (λ v. (0, v)) f.good (pair (table p) (λ _. f))
unfolding pair
matches-before p f e =
    record {
      into = λ a h. (both_right ((one_of (words p)).good a.0) (f.good a.1) h, λ i. (only_one p e a.0 (both_left ((one_of (words p)).good a.0) (f.good a.1) h) i, a.1));
      out = λ b h. (both ((one_of (words p)).good 0) (f.good b) (one-there p e) h, refl);
    }

pub matches-after : {A : Type 0} (p : List ℕ) (f : Format A) → single p ≡ true → Matches {A = A × ℕ} (λ v. v.0) (λ v. (v, 0)) f.good (pair f (λ _. table p))
unfolding pair
matches-after p f e =
    record {
      into = λ a h. (both_left (f.good a.0) ((one_of (words p)).good a.1) h, λ i. (a.0, only_one p e a.1 (both_right (f.good a.0) ((one_of (words p)).good a.1) h) i));
      out = λ b h. (both (f.good b) ((one_of (words p)).good 0) h (one-there p e), refl);
    }

pub before-lawful : {A : Type 0} (p : List ℕ) {f : Format A} {m : ℕ → Bool} → single p ≡ true → sound free p ≡ true → Lawful f m → Lawful (before p f) m
unfolding before
before-lawful p {f} e k law = through-lawful (pair-lawful (table-lawful p free k) (λ _. law) follows-free) (matches-before p f e)

pub begins-before : {A : Type 0} (p : List ℕ) (f : Format A) (m : ℕ → Bool) → single p ≡ true → opens m p ≡ true → Begins m (before p f)
unfolding before
begins-before p f m e k = begins-through (begins-pair (λ _. f) (begins-table p m k)) (matches-before p f e)

pub after-lawful : {A : Type 0} (p : List ℕ) {f : Format A} {m : ℕ → Bool} → single p ≡ true → sound free p ≡ true → opens m p ≡ true → Lawful f m → Lawful (after f p) free
unfolding after
after-lawful p {f} {m} e k o law = through-lawful (pair-lawful law (λ _. table-lawful p free k) (follows-begins (λ _. begins-table p m o))) (matches-after p f e)

pub begins-after : {A : Type 0} (p : List ℕ) (f : Format A) (m : ℕ → Bool) → single p ≡ true → Begins m f → Begins m (after f p)
unfolding after
begins-after p f m e b = begins-through (begins-pair (λ _. table p) b) (matches-after p f e)

-- reading a format and the word behind it
pub after_read : {A : Type 0} (f : Format A) (end s : List ℕ) (at : ℕ) → (after f end).read s at ≡ ended_by (f.read s at) s end
unfolding after pair through
after_read {A} f end s at = told (f.read s at)
  where
    second : (a : A) (o : Out ℕ) → on_out {X = Out A} (on_out {X = Out (A × ℕ)} o stop (λ b d. got (a, b) d)) stop (λ v e. got v.0 e) ≡ on_out o stop (λ b d. got a d)
    second a (got b d) = refl
    second a (stop k) = refl

    told : (o : Out A) → on_out {X = Out A} (on_out {X = Out (A × ℕ)} o stop (λ a e. on_out ((table end).read s e) stop (λ b d. got (a, b) d))) stop (λ v e. got v.0 e) ≡ ended_by o s end
    told (got a e) = second a ((table end).read s e)
    told (stop k) = refl
