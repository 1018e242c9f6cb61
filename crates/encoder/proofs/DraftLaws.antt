-- A draft of fields: their bytes, in order, and the first refusal among them.
use mathlib.Core.Path.{◌≡◌, refl, ap, ◌∙◌}
use mathlib.Core.List.{List, [], ◌∷◌, ◌++◌, append_assoc, append-nil}
use mathlib.Core.Bool.{Bool, true, false, cond}
use mathlib.Core.Logic.{◌≢◌}
use Prim.Native.Nat.{ℕ, suc, ◌+◌, ◌≤◌, ◌<◌}
use native.Mathlib.Numerals.{add-one}
use native.Mathlib.Omega.{arith}
use lib.ListN.{length, take, get_or, length-append, length-set}
use lib.Seq.{take-suc, take-suc-set}
use lib.Dec.{ltb, eqb}
use borrow.Author.Tests.{lt-ltb, eqb-false}
use Rattle.reader.specs.Reply.{Reply, refused, done, and_then}
use Rattle.fields.specs.declared.Field.{Field}
use Rattle.fields.specs.Layout.{field_bytes, field_refusal, layout_bytes, layout_refusal}
use Rattle.fields.proofs.FieldLaws.{layout-nil, layout-cons, refusal-cons}
use Rattle.encoder.specs.declared.Draft.{Draft}
use Rattle.encoder.specs.Mirror.Draft.{empty_draft, with_byte, with_bytes, with_field, with_fields}

pub with-bytes-append : (vs ws : List ℕ) (d : Draft) → with_bytes (vs ++ ws) d ≡ with_bytes ws (with_bytes vs d)
unfolding with_bytes
with-bytes-append [] ws d = refl
with-bytes-append (v ∷ vs) ws d = with-bytes-append vs ws (with_byte v d)

pub one_more : (bs : List ℕ) (i : ℕ) (d : Draft) → i < length bs → with_bytes (take (i + 1) bs) d ≡ with_byte (get_or bs i 0) (with_bytes (take i bs) d)
unfolding with_bytes
one_more bs i d h = rw (add-one i, take-suc bs i 0 h) (with-bytes-append (take i bs) (get_or bs i 0 ∷ []) d)

pub with_append : (fs gs : List Field) (d : Draft) → with_fields (fs ++ gs) d ≡ and_then (with_fields fs d) (with_fields gs)
unfolding with_fields
with_append [] gs d = refl
with_append (f ∷ fs) gs d = told (with_field f d) (with_append fs gs)
  where
    told : (a : Reply Draft) → ((e : Draft) → with_fields (fs ++ gs) e ≡ and_then (with_fields fs e) (with_fields gs)) → and_then a (with_fields (fs ++ gs)) ≡ and_then (and_then a (with_fields fs)) (with_fields gs)
    told (refused n) more = refl
    told (done e) more = more e

-- the draft's bytes
pub record Holds (d : Draft) (bs : List ℕ) : Type 0 where
  pub count : d.length ≡ length bs
  pub bytes : take (length bs) d.bytes ≡ bs
  pub room : length d.bytes ≡ 64

empty_holds : Holds empty_draft []
unfolding empty_draft
empty_holds = record { count = refl; bytes = refl; room = refl }

byte-holds : (d : Draft) (bs : List ℕ) (v : ℕ) → length bs < 64 → Holds d bs → Holds (with_byte v d) (bs ++ (v ∷ []))
unfolding with_byte
byte-holds d bs v h p =
    let here : ltb d.length 64 ≡ true = lt-ltb d.length 64 (omega (arith, p.count)) in
    let more : length (bs ++ (v ∷ [])) ≡ suc (length bs) = length-append bs (v ∷ []) ∙ add-one (length bs) in
    rw here (record {
      count = rw (more, p.count) (add-one (length bs));
      bytes = rw (more, p.count) (take-suc-set d.bytes (length bs) v (omega (arith, p.room)) ∙ ap (λ (l : List ℕ). l ++ (v ∷ [])) p.bytes);
      room = length-set d.bytes d.length v ∙ p.room;
    })

bytes-holds : (vs : List ℕ) (d : Draft) (bs : List ℕ) → length bs + length vs ≤ 64 → Holds d bs → Holds (with_bytes vs d) (bs ++ vs)
unfolding with_bytes
bytes-holds [] d bs h p = rw (append-nil bs) p
bytes-holds (v ∷ vs) d bs h p =
    let next = byte-holds d bs v (omega arith) p in
    let fits : length (bs ++ (v ∷ [])) + length vs ≤ 64 = rw (length-append bs (v ∷ [])) (omega arith) in
    rw append_assoc at (bytes-holds vs (with_byte v d) (bs ++ (v ∷ [])) fits next)

-- fields with this refusal, 0 for none, and these bytes: refused by that number, or all of their bytes
abbrev pub Drafts : Reply Draft → ℕ → List ℕ → Type 0
Drafts (refused n) number bs = (n ≡ number) × (number ≢ 0)
Drafts (done d) number bs = (number ≡ 0) × Holds d bs

fields-draft : (fs : List Field) (d : Draft) (bs : List ℕ) → length bs + length (layout_bytes fs) ≤ 64 → Holds d bs → Drafts (with_fields fs d) (layout_refusal fs) (bs ++ layout_bytes fs)
unfolding with_fields with_field
fields-draft [] d bs h p = rw (layout-nil.0, layout-nil.1, append-nil bs) (refl, p)
fields-draft (f ∷ fs) d bs h p =
    let whole : length (layout_bytes (f ∷ fs)) ≡ length (field_bytes f) + length (layout_bytes fs) = ap length (layout-cons f fs) ∙ length-append (field_bytes f) (layout_bytes fs) in
    let fits : length (bs ++ field_bytes f) + length (layout_bytes fs) ≤ 64 = rw (length-append bs (field_bytes f)) (omega (arith, whole)) in
    rw (layout-cons f fs, refusal-cons f fs, ← append_assoc bs (field_bytes f) (layout_bytes fs))
    (told (eqb (field_refusal f) 0) refl (fields-draft fs (with_bytes (field_bytes f) d) (bs ++ field_bytes f) fits (bytes-holds (field_bytes f) d bs (omega (arith, whole)) p)))
  where
    told : (b : Bool) → eqb (field_refusal f) 0 ≡ b → Drafts (with_fields fs (with_bytes (field_bytes f) d)) (layout_refusal fs) ((bs ++ field_bytes f) ++ layout_bytes fs)
        → Drafts (and_then (cond b (done (with_bytes (field_bytes f) d)) (refused (field_refusal f))) (with_fields fs)) (cond b (layout_refusal fs) (field_refusal f)) ((bs ++ field_bytes f) ++ layout_bytes fs)
    told true e more = more
    told false e more = (refl, eqb-false (field_refusal f) 0 e)

-- fields that have room
pub drafted-drafts : (fs : List Field) → length (layout_bytes fs) ≤ 64 → Drafts (with_fields fs empty_draft) (layout_refusal fs) (layout_bytes fs)
drafted-drafts fs h = fields-draft fs empty_draft [] (omega arith) empty_holds

-- the draft of all their bytes holds them, refused or not, and the refusal is the first among them
pub drafted-holds : (fs : List Field) → length (layout_bytes fs) ≤ 64 → Holds (with_bytes (layout_bytes fs) empty_draft) (layout_bytes fs) × Drafts (with_fields fs empty_draft) (layout_refusal fs) (layout_bytes fs)
drafted-holds fs h = (bytes-holds (layout_bytes fs) empty_draft [] (omega arith) empty_holds, drafted-drafts fs h)
