-- The refusal of fields is that of the first one, in order, that its rule refuses.
use mathlib.Core.Path.{◌≡◌, refl, sym, ap, ◌∙◌}
use mathlib.Core.Logic.{◌≢◌}
use mathlib.Core.List.{List, [], ◌∷◌, ◌++◌}
use mathlib.Core.Bool.{Bool, true, false, cond, true≢false}
use Prim.Native.Nat.{ℕ}
use native.Mathlib.Omega.{arith}
use lib.Dec.{eqb}
use borrow.Author.Tests.{eqb-true, eq-eqb, ne_eqb}
use Rattle.fields.specs.declared.Field.{Field}
use Rattle.fields.specs.declared.Field.TheVariants.{Lacking}
use Rattle.fields.specs.Rules.{judged}
use Rattle.fields.specs.Told.{AllGood}
use Rattle.fields.specs.Layout.{field_refusal, layout_refusal}

pub none-refused : (fs : List Field) → AllGood fs → layout_refusal fs ≡ 0
unfolding layout_refusal
none-refused [] good = refl
none-refused (f ∷ fs) good = rw (good.0, none-refused fs good.1)

-- whatever stands behind it
pub first-refused : (fs : List Field) (f : Field) (gs : List Field) → AllGood fs → field_refusal f ≢ 0 → layout_refusal (fs ++ (f ∷ gs)) ≡ field_refusal f
unfolding layout_refusal
first-refused [] f gs good bad = ap (λ (b : Bool). cond b (layout_refusal gs) (field_refusal f)) (ne_eqb (field_refusal f) 0 bad)
first-refused (e ∷ es) f gs good bad = rw good.0 (first-refused es f gs good.1 bad)

-- ---- two lists

refusal-turn : (n m k both : ℕ) (b : Bool) → eqb n 0 ≡ b → both ≡ cond (eqb m 0) k m → cond b both n ≡ cond (eqb (cond b m n) 0) k (cond b m n)
refusal-turn n m k both true e h = h
refusal-turn n m k both false e h = rw e

-- the first refusal of two lists: that of the first one, if it has any
pub refusal-append : (fs gs : List Field) → layout_refusal (fs ++ gs) ≡ cond (eqb (layout_refusal fs) 0) (layout_refusal gs) (layout_refusal fs)
unfolding layout_refusal
refusal-append [] gs = refl
refusal-append (f ∷ fs) gs = refusal-turn (field_refusal f) (layout_refusal fs) (layout_refusal gs) (layout_refusal (fs ++ gs)) (eqb (field_refusal f) 0) refl (refusal-append fs gs)

-- both lists are good where the two together are
pub good-append : (fs gs : List Field) → layout_refusal (fs ++ gs) ≡ 0 → (layout_refusal fs ≡ 0) × (layout_refusal gs ≡ 0)
good-append fs gs e = split (eqb (layout_refusal fs) 0) refl (sym (refusal-append fs gs) ∙ e)
  where
    split : (b : Bool) → eqb (layout_refusal fs) 0 ≡ b → cond b (layout_refusal gs) (layout_refusal fs) ≡ 0 → (layout_refusal fs ≡ 0) × (layout_refusal gs ≡ 0)
    split true t h = (eqb-true (layout_refusal fs) 0 t, h)
    split false t h = absurd (true≢false (sym (eq-eqb (layout_refusal fs) 0 h) ∙ t))

pub append-good : (fs gs : List Field) → layout_refusal fs ≡ 0 → layout_refusal gs ≡ 0 → layout_refusal (fs ++ gs) ≡ 0
append-good fs gs e h = refusal-append fs gs ∙ rw (e, h)

-- ---- one field

pub one-refusal : (f : Field) → layout_refusal (f ∷ []) ≡ field_refusal f
unfolding layout_refusal
one-refusal f = told (eqb (field_refusal f) 0) refl
  where
    told : (b : Bool) → eqb (field_refusal f) 0 ≡ b → cond b 0 (field_refusal f) ≡ field_refusal f
    told true e = sym (eqb-true (field_refusal f) 0 e)
    told false e = refl

pub good-one : (f : Field) → layout_refusal (f ∷ []) ≡ 0 → field_refusal f ≡ 0
good-one f e = sym (one-refusal f) ∙ e

-- the high word of an immediate whose type lacks it is 0
pub lacking-zero : (v : ℕ) → layout_refusal (Lacking v ∷ []) ≡ 0 → v ≡ 0
unfolding field_refusal judged
lacking-zero v g = told (eqb v 0) refl (good-one (Lacking v) g)
  where
    told : (b : Bool) → eqb v 0 ≡ b → ◌≡◌ {A = ℕ} (cond b 0 3) 0 → v ≡ 0
    told true t h = eqb-true v 0 t
    told false t h = absurd (omega arith)
