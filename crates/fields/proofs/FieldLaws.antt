-- One field and the fields after it: bytes, number of bytes, the refusals that there are, and numbers that fit.
use mathlib.Core.Path.{◌≡◌, refl, ap, ◌∙◌}
use mathlib.Core.List.{List, [], ◌∷◌, ◌++◌}
use mathlib.Core.Bool.{Bool, true, false, cond}
use mathlib.Core.Logic.{◌⊎◌, inl, inr}
use Prim.Native.Nat.{ℕ, ◌+◌, ◌/◌, ◌≤◌, ◌<◌}
use native.Mathlib.Omega.{arith}
use lib.ListN.{length, length-append}
use lib.Dec.{eqb}
use Rattle.little_endian.specs.LittleEndian.{bytes_of, Bytes}
use Rattle.little_endian.proofs.Laws.{length-bytes}
use Rattle.little_endian.proofs.Parts.{nil-bytes, bytes-append, bytes-before, bytes_after, bytes_small, small_bytes}
use Rattle.fields.specs.declared.TagRule.{TagRule}
use Rattle.fields.specs.declared.ByteRule.{ByteRule}
use Rattle.fields.specs.declared.ByteRule.TheVariants as byte
use Rattle.fields.specs.declared.WordRule.{WordRule}
use Rattle.fields.specs.declared.WordRule.TheVariants as word
use Rattle.fields.specs.declared.Field.{Field}
use Rattle.fields.specs.declared.Field.TheVariants.{Byte, Word, Dword, Lacking}
use Rattle.fields.specs.Rules.{judged, tag_good, tag_refusal, byte_refusal, word_refusal}
use Rattle.fields.specs.Layout.{field_bytes, field_refusal, layout_bytes, layout_refusal}
use Rattle.fields.proofs.FirstRefusal.{good-append, lacking-zero}
use Rattle.fields.proofs.Laws.{layout-append}

-- ---- one field

pub byte-field : (rule : ByteRule) (v : ℕ) → (field_bytes (Byte rule v) ≡ bytes_of 1 v) × (field_refusal (Byte rule v) ≡ byte_refusal rule v)
unfolding field_bytes field_refusal
byte-field rule v = (refl, refl)

pub word-field : (rule : WordRule) (v : ℕ) → (field_bytes (Word rule v) ≡ bytes_of 2 v) × (field_refusal (Word rule v) ≡ word_refusal rule v)
unfolding field_bytes field_refusal
word-field rule v = (refl, refl)

pub dword-field : (v : ℕ) → (field_bytes (Dword v) ≡ bytes_of 4 v) × (field_refusal (Dword v) ≡ 0)
unfolding field_bytes field_refusal
dword-field v = (refl, refl)

pub lacking-field : (v : ℕ) → (field_bytes (Lacking v) ≡ []) × (field_refusal (Lacking v) ≡ judged (eqb v 0) 3)
unfolding field_bytes field_refusal
lacking-field v = (refl, refl)

-- ---- a field and those after it

pub layout-nil : (layout_bytes [] ≡ []) × (layout_refusal [] ≡ 0)
unfolding layout_bytes layout_refusal
layout-nil = (refl, refl)

pub layout-cons : (f : Field) (fs : List Field) → layout_bytes (f ∷ fs) ≡ field_bytes f ++ layout_bytes fs
unfolding layout_bytes
layout-cons f fs = refl

pub refusal-cons : (f : Field) (fs : List Field) → layout_refusal (f ∷ fs) ≡ cond (eqb (field_refusal f) 0) (layout_refusal fs) (field_refusal f)
unfolding layout_refusal
refusal-cons f fs = refl

-- ---- the number of bytes

abbrev pub AtMost : ℕ → List Field → Type 0
AtMost n fs = length (layout_bytes fs) ≤ n

pub at-most-nil : AtMost 0 []
at-most-nil = rw layout-nil.0 (omega arith)

at-most-cons : (f : Field) (fs : List Field) (m n : ℕ) → length (field_bytes f) ≡ m → AtMost n fs → AtMost (m + n) (f ∷ fs)
at-most-cons f fs m n e h = rw (layout-cons f fs, length-append (field_bytes f) (layout_bytes fs)) (omega arith)

pub at-most-byte : (rule : ByteRule) (v : ℕ) (fs : List Field) (n : ℕ) → AtMost n fs → AtMost (1 + n) (Byte rule v ∷ fs)
at-most-byte rule v fs n h = at-most-cons (Byte rule v) fs 1 n (ap length (byte-field rule v).0 ∙ length-bytes 1 v) h

pub at-most-word : (rule : WordRule) (v : ℕ) (fs : List Field) (n : ℕ) → AtMost n fs → AtMost (2 + n) (Word rule v ∷ fs)
at-most-word rule v fs n h = at-most-cons (Word rule v) fs 2 n (ap length (word-field rule v).0 ∙ length-bytes 2 v) h

pub at-most-dword : (v : ℕ) (fs : List Field) (n : ℕ) → AtMost n fs → AtMost (4 + n) (Dword v ∷ fs)
at-most-dword v fs n h = at-most-cons (Dword v) fs 4 n (ap length (dword-field v).0 ∙ length-bytes 4 v) h

pub at-most-lacking : (v : ℕ) (fs : List Field) (n : ℕ) → AtMost n fs → AtMost (0 + n) (Lacking v ∷ fs)
at-most-lacking v fs n h = at-most-cons (Lacking v) fs 0 n (ap length (lacking-field v).0) h

pub at-most-append : (fs gs : List Field) (m n : ℕ) → AtMost m fs → AtMost n gs → AtMost (m + n) (fs ++ gs)
at-most-append fs gs m n p q = rw (layout-append fs gs, length-append (layout_bytes fs) (layout_bytes gs)) (omega arith)

-- ---- a field is refused by 3 or 4 and no other number

abbrev pub ZeroThreeOrFour : ℕ → Type 0
ZeroThreeOrFour n = (n ≡ 0) ⊎ ((n ≡ 3) ⊎ (n ≡ 4))

three : (good : Bool) → ZeroThreeOrFour (judged good 3)
unfolding judged
three true = inl refl
three false = inr (inl refl)

tag-refusals : (rule : TagRule) (v : ℕ) → ZeroThreeOrFour (tag_refusal rule v)
unfolding tag_refusal judged
tag-refusals rule v = told (eqb (v / 64) 0) (tag_good rule v)
  where
    told : (named good : Bool) → ZeroThreeOrFour (cond named (cond good 0 4) 3)
    told true true = inl refl
    told true false = inr (inr refl)
    told false good = inr (inl refl)

byte-refusals : (rule : ByteRule) (v : ℕ) → ZeroThreeOrFour (byte_refusal rule v)
unfolding byte_refusal
byte-refusals byte.Free v = inl refl
byte-refusals byte.Exec v = three _
byte-refusals byte.ScatterExec v = three _
byte-refusals byte.NumBlocks v = three _
byte-refusals byte.Channels v = three _
byte-refusals byte.Modifiers v = three _
byte-refusals byte.NumSrc v = three _
byte-refusals byte.NumDst v = three _
byte-refusals (byte.Tag rule) v = tag-refusals rule v
byte-refusals byte.ImmediateType v = three _

word-refusals : (rule : WordRule) (v : ℕ) → ZeroThreeOrFour (word_refusal rule v)
unfolding word_refusal
word-refusals word.Free v = inl refl
word-refusals word.Predicate v = three _
word-refusals word.Region v = three _

field-refusals : (f : Field) → ZeroThreeOrFour (field_refusal f)
unfolding field_refusal
field-refusals (Byte rule v) = byte-refusals rule v
field-refusals (Word rule v) = word-refusals rule v
field-refusals (Dword v) = inl refl
field-refusals (Lacking v) = three _

pub layout-refusals : (fs : List Field) → ZeroThreeOrFour (layout_refusal fs)
unfolding layout_refusal
layout-refusals [] = inl refl
layout-refusals (f ∷ fs) = told (eqb (field_refusal f) 0) (layout-refusals fs) (field-refusals f)
  where
    told : (b : Bool) → ZeroThreeOrFour (layout_refusal fs) → ZeroThreeOrFour (field_refusal f) → ZeroThreeOrFour (cond b (layout_refusal fs) (field_refusal f))
    told true p q = p
    told false p q = q

-- ---- numbers that fit their fields, as those of every instruction of the code do by their types

abbrev pub FieldFits : Field → Type 0
FieldFits (Byte rule v) = v < 256
FieldFits (Word rule v) = v < 65536
FieldFits (Dword v) = v < 4294967296
FieldFits (Lacking v) = v < 4294967296

abbrev pub LayoutFits : List Field → Type 0
LayoutFits [] = Unit
LayoutFits (f ∷ fs) = FieldFits f × LayoutFits fs

field_fits : (f : Field) → FieldFits f → Bytes (field_bytes f)
unfolding field_bytes
field_fits (Byte rule v) h = bytes_small 1 v h
field_fits (Word rule v) h = bytes_small 2 v h
field_fits (Dword v) h = bytes_small 4 v h
field_fits (Lacking v) h = nil-bytes

pub layout-fits : (fs : List Field) → LayoutFits fs → Bytes (layout_bytes fs)
unfolding layout_bytes
layout-fits [] h = nil-bytes
layout-fits (f ∷ fs) h = bytes-append (field_bytes f) (layout_bytes fs) (field_fits f h.0) (layout-fits fs h.1)

fits-field : (f : Field) → layout_refusal (f ∷ []) ≡ 0 → Bytes (field_bytes f) → FieldFits f
unfolding field_bytes
fits-field (Byte rule v) g p = small_bytes 0 v p
fits-field (Word rule v) g p = small_bytes 1 v p
fits-field (Dword v) g p = small_bytes 3 v p
fits-field (Lacking v) g p = omega (arith, lacking-zero v g)

-- good fields that have bytes alone
pub fits-layout : (fs : List Field) → layout_refusal fs ≡ 0 → Bytes (layout_bytes fs) → LayoutFits fs
fits-layout [] g p = tt
fits-layout (f ∷ fs) g p =
    let goods = good-append (f ∷ []) fs g in
    let b : Bytes (field_bytes f ++ layout_bytes fs) = rw layout-cons at p in
    (fits-field f goods.0 (bytes-before (field_bytes f) (layout_bytes fs) b), fits-layout fs goods.1 (bytes_after (field_bytes f) (layout_bytes fs) b))
