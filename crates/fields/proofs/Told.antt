-- Fields are told by their bytes, or the first that is refused is a high word that its type lacks.
use mathlib.Core.Path.{◌≡◌, refl, ap, ◌∙◌}
use mathlib.Core.Logic.{◌≢◌, ◌⊎◌, inl, inr, ⊎_elim}
use mathlib.Core.List.{List, [], ◌∷◌, ◌++◌}
use mathlib.Core.Bool.{Bool, true, false}
use Prim.Native.Nat.{ℕ}
use native.Mathlib.Omega.{arith}
use lib.Dec.{eqb}
use borrow.Author.Tests.{eqb-true, eqb-false, ne_eqb}
use Rattle.fields.specs.declared.Field.{Field}
use Rattle.fields.specs.declared.Field.TheVariants.{Byte, Word, Dword, Lacking}
use Rattle.fields.specs.Rules.{judged}
use Rattle.fields.specs.Layout.{field_refusal, layout_refusal}
use Rattle.fields.specs.Told.{FieldTold, LayoutTold, LackingFirst}
use Rattle.fields.proofs.FirstRefusal.{first-refused, one-refusal, good-append, good-one, lacking-zero}

pub told-append : (fs gs : List Field) → LayoutTold (fs ++ gs) → LayoutTold fs × (layout_refusal fs ≡ 0 → LayoutTold gs)
told-append [] gs h = (tt, λ g. h)
told-append (f ∷ fs) gs h =
    let rest : field_refusal f ≡ 0 → LayoutTold fs × (layout_refusal fs ≡ 0 → LayoutTold gs) = λ e. told-append fs gs (h.1 e) in
    ((h.0, λ e. (rest e).0), λ g. let goods = good-append (f ∷ []) fs g in (rest (good-one f goods.0)).1 goods.1)

field_told : (f : Field) → field_refusal f ≡ 0 → FieldTold f
field_told (Byte rule v) g = tt
field_told (Word rule v) g = tt
field_told (Dword v) g = tt
field_told (Lacking v) g = lacking-zero v (one-refusal (Lacking v) ∙ g)

-- fields that are all good
pub good-told : (fs : List Field) → layout_refusal fs ≡ 0 → LayoutTold fs
good-told [] g = tt
good-told (f ∷ fs) g =
    let goods = good-append (f ∷ []) fs g in
    (field_told f (good-one f goods.0), λ e. good-told fs goods.1)

-- "a non-zero high word that the type lacks is 3"
pub lacking-three : (fs : List Field) → LackingFirst fs → layout_refusal fs ≡ 3
unfolding field_refusal judged
lacking-three fs p =
    let three : field_refusal (Lacking p.high) ≡ 3 = rw (ne_eqb p.high 0 p.some) in
    let bad : field_refusal (Lacking p.high) ≢ 0 = λ z. absurd (omega (arith, three, z)) in
    ap layout_refusal p.split ∙ first-refused p.before (Lacking p.high) p.behind p.good bad ∙ three

zero-good : (v : ℕ) → v ≡ 0 → field_refusal (Lacking v) ≡ 0
unfolding field_refusal judged
zero-good v z = rw z

-- there is no other way
pub told-or-lacking : (fs : List Field) → LayoutTold fs ⊎ LackingFirst fs
told-or-lacking [] = inl tt
told-or-lacking (f ∷ fs) = by-refusal (eqb (field_refusal f) 0) refl (told-or-lacking fs)
  where
    refused : (f : Field) → field_refusal f ≢ 0 → LayoutTold (f ∷ fs) ⊎ LackingFirst (f ∷ fs)
    refused (Byte rule v) bad = inl (tt, λ e. absurd (bad e))
    refused (Word rule v) bad = inl (tt, λ e. absurd (bad e))
    refused (Dword v) bad = inl (tt, λ e. absurd (bad e))
    refused (Lacking v) bad = inr (record { before = []; high = v; behind = fs; split = refl; good = tt; some = λ z. bad (zero-good v z) })

    by-refusal : (b : Bool) → eqb (field_refusal f) 0 ≡ b → LayoutTold fs ⊎ LackingFirst fs → LayoutTold (f ∷ fs) ⊎ LackingFirst (f ∷ fs)
    by-refusal false e p = refused f (eqb-false (field_refusal f) 0 e)
    by-refusal true e p =
        let g = eqb-true (field_refusal f) 0 e in
        ⊎_elim (λ told. inl (field_told f g, λ _. told))
        (λ r. inr (record { before = f ∷ r.before; high = r.high; behind = r.behind; split = ap (λ (l : List Field). f ∷ l) r.split; good = (g, r.good); some = r.some })) p
