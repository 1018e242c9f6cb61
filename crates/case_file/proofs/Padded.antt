-- A buffer whose front was taken by a list: how it grows.
use mathlib.Core.Path.{◌≡◌, refl, sym, ap, ◌∙◌}
use mathlib.Core.Bool.{true, false}
use mathlib.Core.List.{List, [], ◌∷◌, ◌++◌, map, map-append}
use Prim.Native.Nat.{ℕ, suc, ◌+◌, ◌≤◌, ◌<◌}
use native.Mathlib.Omega.{arith}
use lib.ListN.{length, set, take, drop, length-append, length-drop}
use lib.Seq.{take-append_seam, drop-append-add, drop-drop}
use borrow.Author.Tests.{le-leb, lt-leb}
use Rattle.hex_text.specs.Storing.{placed, fits, stored}
use Rattle.hex_text.proofs.StoringLaws.{placed-is, placed-more, placed-none}

-- the list, and behind it what the buffer had there
unfoldable pub padded : List ℕ → List ℕ → List ℕ
padded z l = l ++ drop (length l) z

pub padded-none : (z : List ℕ) → padded z [] ≡ z
unfolding padded
padded-none z = refl

length-padded : (z l : List ℕ) → length l ≤ length z → length (padded z l) ≡ length z
unfolding padded
length-padded z l h = omega (arith, length-append l (drop (length l) z), length-drop (length l) z)

pub take-padded : (z l : List ℕ) → take (length l) (padded z l) ≡ l
unfolding padded
take-padded z l = take-append_seam l (drop (length l) z)

placed-padded : (z l bs : List ℕ) → length l + length bs ≤ length z → placed (padded z l) (length l) bs ≡ padded z (l ++ bs)
unfolding padded
placed-padded z l bs h =
    let room : length l + length bs ≤ length (l ++ drop (length l) z) = omega (arith, length-append l (drop (length l) z), length-drop (length l) z) in
    placed-is (l ++ drop (length l) z) (length l) bs room
    ∙ rw (take-append_seam l (drop (length l) z), drop-append-add l (drop (length l) z) (length bs), drop-drop (length bs) (length l) z, length-append l bs) refl

pub fits-padded : (z l bs : List ℕ) → length l + length bs ≤ length z → fits bs (length l) (padded z l) ≡ true
unfolding fits
fits-padded z l bs h = le-leb (length l + length bs) (length (padded z l)) (omega (arith, length-padded z l (omega arith)))

pub stored-padded : (z l bs : List ℕ) → length l + length bs ≤ length z → stored bs (length l) (padded z l) ≡ padded z (l ++ bs)
unfolding stored
stored-padded z l bs h = rw (fits-padded z l bs h) (placed-padded z l bs h)

-- a content goes to an empty buffer
pub fits-once : (z c : List ℕ) → length c ≤ length z → fits c 0 (padded z []) ≡ true
fits-once z c h = fits-padded z [] c (omega (arith, h))

pub stored-once : (z c : List ℕ) → length c ≤ length z → stored c 0 (padded z []) ≡ padded z c
stored-once z c h = stored-padded z [] c (omega (arith, h))

pub no_room : (z c : List ℕ) → length z < length c → fits c 0 (padded z []) ≡ false
unfolding fits
no_room z c h = lt-leb (0 + length c) (length (padded z [])) (omega (arith, h, ap length (padded-none z)))

-- a table with an entry for each content
module _ {A : Type 0} (f : A → ℕ) where
  pub length-map : (cs : List A) → length (map f cs) ≡ length cs
  length-map [] = refl
  length-map (c ∷ cs) = ap suc (length-map cs)

  pub length-table : (z : List ℕ) (cs : List A) → length cs ≤ length z → length (padded z (map f cs)) ≡ length z
  length-table z cs h = length-padded z (map f cs) (omega (arith, length-map cs, h))

  pub take-table : (z : List ℕ) (cs : List A) → take (length cs) (padded z (map f cs)) ≡ map f cs
  take-table z cs = ap (λ (n : ℕ). take n (padded z (map f cs))) (sym (length-map cs)) ∙ take-padded z (map f cs)

  pub set-table : (z : List ℕ) (cs : List A) (c : A) → length cs < length z → set (padded z (map f cs)) (length cs) (f c) ≡ padded z (map f (cs ++ (c ∷ [])))
  set-table z cs c h =
      let l = padded z (map f cs) in
      sym (placed-more l (length cs) (f c) [] ∙ placed-none (set l (length cs) (f c)) (suc (length cs)))
      ∙ (ap (λ (n : ℕ). placed l n (f c ∷ [])) (sym (length-map cs))
      ∙ (placed-padded z (map f cs) (f c ∷ []) (omega (arith, length-map cs, h)) ∙ ap (padded z) (sym (map-append f cs (c ∷ [])))))
