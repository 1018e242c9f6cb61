-- Forward: what reading a field gave stands there and is good. The bytes of two lists of fields, one after the other.
use mathlib.Core.Path.{◌≡◌, refl, sym, ap, ◌∙◌, subst}
use mathlib.Core.Logic.{◌≢◌}
use mathlib.Core.List.{List, [], ◌∷◌, ◌++◌, append_assoc, append-nil}
use Prim.Native.Nat.{ℕ, suc, ◌<◌}
use native.Mathlib.Omega.{arith}
use lib.ListN.{length, length-append}
use lib.Dec.{eqb}
use borrow.Author.Tests.{eqb-true, eqb-false}
use Rattle.little_endian.specs.LittleEndian.{bytes_of, Bytes}
use Rattle.little_endian.proofs.Laws.{length-bytes}
use Rattle.reader.specs.Reply.{Reply, refused, done, Read, and_then}
use Rattle.reader.proofs.Laws.{Passed, passed_then, cond-then, read-then}
use Rattle.reader.specs.Reading.{read_at}
use Rattle.fields.specs.declared.ByteRule.{ByteRule}
use Rattle.fields.specs.declared.WordRule.{WordRule}
use Rattle.fields.specs.declared.Field.{Field}
use Rattle.fields.specs.declared.Field.TheVariants as field
use Rattle.fields.specs.Rules.{judged, byte_refusal, word_refusal}
use Rattle.fields.specs.Reading.{judged_read, byte_field_at, word_field_at, dword_field_at}
use Rattle.fields.specs.Layout.{field_bytes, field_refusal, layout_bytes, layout_refusal}
use Rattle.fields.proofs.FirstRefusal.{append-good, one-refusal}

-- ---- bytes

pub layout-append : (fs gs : List Field) → layout_bytes (fs ++ gs) ≡ layout_bytes fs ++ layout_bytes gs
unfolding layout_bytes
layout-append [] gs = refl
layout-append (f ∷ fs) gs = ap (λ (l : List ℕ). field_bytes f ++ l) (layout-append fs gs) ∙ sym (append_assoc (field_bytes f) (layout_bytes fs) (layout_bytes gs))

-- ---- forward

-- from `at` to `next` stand the bytes of these fields, and all are good
pub record Parsed (s : List ℕ) (at next : ℕ) (fs : List Field) : Type 0 where
  pub passed : Passed s at next (layout_bytes fs)
  pub good : layout_refusal fs ≡ 0

pub parsed-then : {s : List ℕ} {at m n : ℕ} {fs gs : List Field} → Parsed s at m fs → Parsed s m n gs → Parsed s at n (fs ++ gs)
parsed-then {s} {at} {m} {n} {fs} {gs} p q =
    record {
      passed = subst (λ (l : List ℕ). Passed s at n l) (sym (layout-append fs gs)) (passed_then p.passed q.passed);
      good = append-good fs gs p.good q.good;
    }

-- one field
pub one-bytes : (f : Field) → layout_bytes (f ∷ []) ≡ field_bytes f
unfolding layout_bytes
one-bytes f = append-nil (field_bytes f)

parsed-one : {s : List ℕ} {at next : ℕ} (f : Field) → Passed s at next (field_bytes f) → field_refusal f ≡ 0 → Parsed s at next (f ∷ [])
parsed-one {s} {at} {next} f p e = record { passed = subst (λ (l : List ℕ). Passed s at next l) (sym (one-bytes f)) p; good = one-refusal f ∙ e }

-- a high word that the type lacks takes no byte
pub parsed-lacking : {s : List ℕ} {at next : ℕ} {fs : List Field} → Parsed s at next fs → Parsed s next next (field.Lacking 0 ∷ [])
unfolding field_bytes field_refusal judged
parsed-lacking {s} {at} {next} p = parsed-one (field.Lacking 0) (record { end = omega arith; inside = p.passed.inside; bytes = refl }) refl

-- of an answer: what was given stands there, laid out as fields; a refusal's number is not 0, which means done
abbrev pub ParsedAs : {A : Type 0} → (A → List Field) → List ℕ → ℕ → Reply (Read A) → Type 0
ParsedAs fields s at (refused n) = n ≢ 0
ParsedAs fields s at (done r) = Parsed s at r.next (fields r.value)

pub record Given {A : Type 0} (fields : A → List Field) (s : List ℕ) (at : ℕ) (a : Reply (Read A)) : Type 0 where
  pub is : ParsedAs fields s at a

-- what follows it, read from a start before it
pub given-then : {A B : Type 0} {fs : A → List Field} {gs : B → List Field} {s : List ℕ} {at start : ℕ} {a : Reply (Read A)} {f : Read A → Reply (Read B)} → Given fs s at a → ((r : Read A) → Parsed s at r.next (fs r.value) → Given gs s start (f r)) → Given gs s start (and_then a f)
given-then {A} {B} {fs} {gs} {s} {at} {start} {a} {f} g on = told a g.is
  where
    told : (a : Reply (Read A)) → ParsedAs fs s at a → Given gs s start (and_then a f)
    told (refused n) o = record { is = o }
    told (done r) o = on r o

one-refuses : ◌≢◌ {A = ℕ} 1 0
one-refuses = λ (z : ◌≡◌ {A = ℕ} 1 0). omega arith

module _ (s : List ℕ) (b : Bytes s) where
  judged-given : (at n : ℕ) (refusal : ℕ → ℕ) (f : ℕ → Field) → ((v : ℕ) → field_bytes (f v) ≡ bytes_of (suc n) v) → ((v : ℕ) → field_refusal (f v) ≡ refusal v) → Given (λ v. f v ∷ []) s at (and_then (read_at (suc n) s at) (judged_read refusal))
  unfolding judged_read
  judged-given at n refusal f bytes refuses =
      record {
        is =
            read-then (λ a. P (and_then a (judged_read refusal))) n s at b one-refuses (λ v next p.
            cond-then P (eqb (refusal v) 0)
            (λ e. parsed-one (f v) (subst (λ (l : List ℕ). Passed s at next l) (sym (bytes v)) p) (refuses v ∙ eqb-true (refusal v) 0 e))
            (λ e. eqb-false (refusal v) 0 e));
      }
    where
      P : Reply (Read ℕ) → Type 0
      P = ParsedAs (λ v. f v ∷ []) s at

  pub byte-given : (rule : ByteRule) (at : ℕ) → Given (λ v. field.Byte rule v ∷ []) s at (byte_field_at rule s at)
  unfolding byte_field_at field_bytes field_refusal
  byte-given rule at = judged-given at 0 (byte_refusal rule) (field.Byte rule) (λ v. refl) (λ v. refl)

  pub word-given : (rule : WordRule) (at : ℕ) → Given (λ v. field.Word rule v ∷ []) s at (word_field_at rule s at)
  unfolding word_field_at field_bytes field_refusal
  word-given rule at = judged-given at 1 (word_refusal rule) (field.Word rule) (λ v. refl) (λ v. refl)

  pub dword-given : (at : ℕ) → Given (λ v. field.Dword v ∷ []) s at (dword_field_at s at)
  unfolding dword_field_at field_bytes field_refusal
  dword-given at =
      record { is = read-then (ParsedAs (λ v. field.Dword v ∷ []) s at) 3 s at b one-refuses (λ v next p. parsed-one (field.Dword v) p refl) }

-- what begins with a byte has a byte
pub byte-some : (rule : ByteRule) (v : ℕ) (fs : List Field) → 0 < length (layout_bytes (field.Byte rule v ∷ fs))
unfolding layout_bytes field_bytes
byte-some rule v fs = omega (arith, length-append (bytes_of 1 v) (layout_bytes fs), length-bytes 1 v)
