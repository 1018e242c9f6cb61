-- The contents of each kind, as one frame comes after the other.
use mathlib.Core.Path.{◌≡◌, refl, ap, fun_ext}
use mathlib.Core.Bool.{Bool, true, false, cond}
use mathlib.Core.List.{List, [], ◌∷◌, ◌++◌}
use Prim.Native.Nat.{ℕ, suc, ◌+◌}
use lib.Dec.{eqb}
use lib.ListN.{length, length-append}
use borrow.Author.Tests.{eqb-true, eq-eqb}
use native.Mathlib.Omega.{arith}
use Rattle.case_file.specs.Frames.{kind_of, content_of, of_kind, first_of}

abbrev pub Kinds : Type 0
Kinds = ℕ → List (List ℕ)

abbrev pub kinds_of : List (List ℕ) → Kinds
kinds_of frames kind = of_kind kind frames

-- one content more, of this kind
abbrev pub added : ℕ → List ℕ → Kinds → Kinds
added kind content g k = cond (eqb kind k) (g k ++ (content ∷ [])) (g k)

push : (p q : Bool) (d c : List ℕ) (l m : List (List ℕ)) → m ≡ cond q (l ++ (c ∷ [])) l → cond p (d ∷ m) m ≡ cond q (cond p (d ∷ l) l ++ (c ∷ [])) (cond p (d ∷ l) l)
push true true d c l m e = ap (λ (x : List (List ℕ)). d ∷ x) e
push true false d c l m e = ap (λ (x : List (List ℕ)). d ∷ x) e
push false true d c l m e = e
push false false d c l m e = e

contents-more : (k : ℕ) (f : List ℕ) (frames : List (List ℕ)) → of_kind k (frames ++ (f ∷ [])) ≡ added (kind_of f) (content_of f) (kinds_of frames) k
unfolding of_kind
contents-more k f [] = refl
contents-more k f (d ∷ frames) =
    push (eqb (kind_of d) k) (eqb (kind_of f) k) (content_of d) (content_of f) (of_kind k frames) (of_kind k (frames ++ (f ∷ []))) (contents-more k f frames)

pub kinds-more : (frames : List (List ℕ)) (f : List ℕ) → kinds_of (frames ++ (f ∷ [])) ≡ added (kind_of f) (content_of f) (kinds_of frames)
kinds-more frames f = fun_ext (λ k. contents-more k f frames)

pub one_more : {A : Type 0} (l : List A) (a : A) → length (l ++ (a ∷ [])) ≡ length l + 1
one_more l a = length-append l (a ∷ [])

-- of a kind that comes once at most
pub first-new : (l : List (List ℕ)) (c : List ℕ) → l ≡ [] → first_of (l ++ (c ∷ [])) ≡ c
unfolding first_of
first-new l c e = rw e refl

pub first-added : (k : ℕ) (c : List ℕ) (g : Kinds) → g k ≡ [] → first_of (added k c g k) ≡ c
first-added k c g e = rw (eq-eqb k k refl) (first-new (g k) c e)

pub none_yet : (l : List (List ℕ)) → eqb (length l) 0 ≡ true → l ≡ []
none_yet [] e = refl
none_yet (c ∷ l) e = let x : suc (length l) ≡ 0 = eqb-true (suc (length l)) 0 e in absurd (omega arith)
