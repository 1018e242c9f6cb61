-- Backward: where the bytes of fields stand, they are read back in order, all of them or up to the first that is refused, whose number is the answer.
use mathlib.Core.Path.{◌≡◌, refl, ap, ◌∙◌}
use mathlib.Core.Logic.{◌≢◌}
use mathlib.Core.List.{List, [], ◌∷◌, ◌++◌, append_assoc}
use mathlib.Core.Bool.{Bool, true, false, cond}
use Prim.Native.Nat.{ℕ, ◌+◌}
use native.Mathlib.Omega.{arith}
use lib.ListN.{length, drop, length-append}
use lib.Dec.{eqb}
use borrow.Author.Tests.{eqb-true, ne_eqb}
use Rattle.little_endian.proofs.Laws.{length-bytes}
use Rattle.reader.specs.Reply.{Reply, refused, Read, got, and_then}
use Rattle.reader.proofs.Laws.{past, read-there}
use Rattle.fields.specs.declared.ByteRule.{ByteRule}
use Rattle.fields.specs.declared.WordRule.{WordRule}
use Rattle.fields.specs.declared.Field.{Field}
use Rattle.fields.specs.declared.Field.TheVariants as field
use Rattle.fields.specs.Rules.{judged}
use Rattle.fields.specs.Reading.{judged_read, byte_field_at, word_field_at, dword_field_at}
use Rattle.fields.specs.Layout.{field_bytes, field_refusal, layout_bytes, layout_refusal}
use Rattle.fields.proofs.FirstRefusal.{refusal-append, one-refusal}
use Rattle.fields.proofs.Laws.{layout-append, one-bytes}
use Rattle.fields.specs.Told.{LayoutTold}
use Rattle.fields.proofs.Told.{told-append}

-- ---- the answer

-- at `at` stand the bytes of these fields, and then `t`
pub record Stands (s : List ℕ) (at : ℕ) (fs : List Field) (t : List ℕ) : Type 0 where
  pub told : LayoutTold fs
  pub bytes : drop at s ≡ layout_bytes fs ++ t

-- the answer of reading these fields at `at`: the value with the position past them, or the number of the first that is refused
pub record There {A : Type 0} (a : Reply (Read A)) (v : A) (at : ℕ) (fs : List Field) : Type 0 where
  pub is : a ≡ cond (eqb (layout_refusal fs) 0) (got v (at + length (layout_bytes fs))) (refused (layout_refusal fs))

pub there-good : {A : Type 0} {a : Reply (Read A)} {v : A} {at : ℕ} {fs : List Field} → There a v at fs → layout_refusal fs ≡ 0 → a ≡ got v (at + length (layout_bytes fs))
there-good t g = t.is ∙ rw g

pub there-refused : {A : Type 0} {a : Reply (Read A)} {v : A} {at : ℕ} {fs : List Field} → There a v at fs → layout_refusal fs ≢ 0 → a ≡ refused (layout_refusal fs)
there-refused {fs = fs} t b = t.is ∙ rw (ne_eqb (layout_refusal fs) 0 b)

-- some fields, and then the others
pub there-then : {A B : Type 0} {a : Reply (Read A)} {v : A} (f : Read A → Reply (Read B)) {w : B} {s : List ℕ} {at : ℕ} {fs gs : List Field} {t : List ℕ} → (Stands s at fs (layout_bytes gs ++ t) → There a v at fs) → Stands s at (fs ++ gs) t → ((n : ℕ) → Stands s n gs t → There (f (record { value = v; next = n })) w n gs) → There (and_then a f) w at (fs ++ gs)
there-then {A} {B} {a} {v} f {w} {s} {at} {fs} {gs} {t} first h others = record { is = ap (λ (x : Reply (Read A)). and_then x f) (first (record { told = parts.0; bytes = stands })).is ∙ split (eqb (layout_refusal fs) 0) refl }
  where
    parts : LayoutTold fs × (layout_refusal fs ≡ 0 → LayoutTold gs)
    parts = told-append fs gs h.told

    stands : drop at s ≡ layout_bytes fs ++ (layout_bytes gs ++ t)
    stands = h.bytes ∙ (ap (λ (l : List ℕ). l ++ t) (layout-append fs gs) ∙ append_assoc (layout_bytes fs) (layout_bytes gs) t)

    ends : at + length (layout_bytes (fs ++ gs)) ≡ at + length (layout_bytes fs) + length (layout_bytes gs)
    ends = rw (layout-append fs gs, length-append (layout_bytes fs) (layout_bytes gs)) (omega arith)

    split : (b : Bool) → eqb (layout_refusal fs) 0 ≡ b → and_then (cond (eqb (layout_refusal fs) 0) (got v (at + length (layout_bytes fs))) (refused (layout_refusal fs))) f ≡ cond (eqb (layout_refusal (fs ++ gs)) 0) (got w (at + length (layout_bytes (fs ++ gs)))) (refused (layout_refusal (fs ++ gs)))
    split true e =
        let g : layout_refusal fs ≡ 0 = eqb-true (layout_refusal fs) 0 e in
        rw (refusal-append fs gs, e, ends) (others (at + length (layout_bytes fs)) (record { told = parts.1 g; bytes = past s at (layout_bytes fs) (layout_bytes gs ++ t) stands })).is
    split false e = rw (refusal-append fs gs, e, e)

-- the last fields
pub there-last : {A B : Type 0} {a : Reply (Read A)} {v : A} (made : A → B) {at : ℕ} {fs : List Field} → There a v at fs → There (and_then a (λ r. got (made r.value) r.next)) (made v) at fs
there-last {A} {B} {a} {v} made {at} {fs} t = record { is = ap (λ (x : Reply (Read A)). and_then x (λ r. got (made r.value) r.next)) t.is ∙ split (eqb (layout_refusal fs) 0) }
  where
    split : (b : Bool) → and_then (cond b (got v (at + length (layout_bytes fs))) (refused (layout_refusal fs))) (λ r. got (made r.value) r.next) ≡ cond b (got (made v) (at + length (layout_bytes fs))) (refused (layout_refusal fs))
    split true = refl
    split false = refl

-- a high word that the type lacks takes no byte; it is 0
pub lacking-there : {A : Type 0} {v : A} (at : ℕ) → There (got v at) v at (field.Lacking 0 ∷ [])
unfolding layout_bytes layout_refusal field_bytes field_refusal judged
lacking-there {v = v} at = let e : at ≡ at + 0 = omega arith in record { is = ap (λ (n : ℕ). got v n) e }

-- ---- one field, whose bytes are whole

-- its rule decides
field-there : {a : Reply (Read ℕ)} {v at : ℕ} (f : Field) (n : ℕ) → length (field_bytes f) ≡ n → a ≡ cond (eqb (field_refusal f) 0) (got v (at + n)) (refused (field_refusal f)) → There a v at (f ∷ [])
field-there f n e is = record { is = is ∙ rw (one-refusal f, one-bytes f, e) }

module _ {s : List ℕ} {at : ℕ} {t : List ℕ} where
  field-bytes : (f : Field) → Stands s at (f ∷ []) t → drop at s ≡ field_bytes f ++ t
  field-bytes f h = h.bytes ∙ ap (λ (l : List ℕ). l ++ t) (one-bytes f)

  pub byte-there : (rule : ByteRule) (v : ℕ) → Stands s at (field.Byte rule v ∷ []) t → There (byte_field_at rule s at) v at (field.Byte rule v ∷ [])
  unfolding byte_field_at judged_read field_bytes field_refusal
  byte-there rule v h =
      let f = field.Byte rule v in
      field-there f 1 (length-bytes 1 v) (rw (read-there 0 s at v t (field-bytes f h)))

  pub word-there : (rule : WordRule) (v : ℕ) → Stands s at (field.Word rule v ∷ []) t → There (word_field_at rule s at) v at (field.Word rule v ∷ [])
  unfolding word_field_at judged_read field_bytes field_refusal
  word-there rule v h =
      let f = field.Word rule v in
      field-there f 2 (length-bytes 2 v) (rw (read-there 1 s at v t (field-bytes f h)))

  pub dword-there : (v : ℕ) → Stands s at (field.Dword v ∷ []) t → There (dword_field_at s at) v at (field.Dword v ∷ [])
  unfolding dword_field_at field_bytes field_refusal
  dword-there v h =
      let f = field.Dword v in
      field-there f 4 (length-bytes 4 v) (read-there 3 s at v t (field-bytes f h))
