-- A part of a block up to the next 0x0a.
use mathlib.Core.Path.{◌≡◌, refl, sym, ap, ◌∙◌}
use mathlib.Core.Bool.{Bool, true, false, cond}
use mathlib.Core.List.{List, [], ◌∷◌}
use Prim.Native.Nat.{ℕ, suc, ◌+◌, ◌≤◌, ◌<◌}
use native.Mathlib.Omega.{arith}
use native.Mathlib.Numerals.{add-one}
use lib.ListN.{length, get_or, drop, length-drop, drop_of_length-le}
use lib.Seq.{drop-cons, get_or-drop}
use lib.Dec.{eqb, ltb}
use borrow.Author.Tests.{ne_eqb, eqb-true, ltb-false}
use Rattle.std.specs.List.{position, position_or_len}
use Rattle.std.specs.Option.{unwrap_or}
use Rattle.std.specs.Prelude.{Some, None}
use Rattle.std.proofs.lemmas.List.Recursion.{is_position_or_len}
use Rattle.line_blocks.specs.Mirror.Rows.{line_length}

-- the search for the 0x0a
pub is_position : (text : List ℕ) → line_length text ≡ position_or_len (λ b. eqb b 10) text
unfolding line_length
is_position = is_position_or_len line_length (λ b. eqb b 10) length_none length_more
  where
    length_none : line_length [] ≡ 0
    length_none = refl

    length_more : (b : ℕ) (bs : List ℕ) → line_length (b ∷ bs) ≡ cond (eqb b 10) 0 (1 + line_length bs)
    length_more b bs = let e : suc (line_length bs) ≡ 1 + line_length bs = omega arith in ap (cond (eqb b 10) 0) e

pub end-here : (block : List ℕ) (i : ℕ) → i < length block → get_or block i 0 ≡ 10 → line_length (drop i block) ≡ 0
unfolding line_length
end-here block i h e = rw (drop-cons block i 0 h, e)

pub end_on : (block : List ℕ) (i : ℕ) → i < length block → (get_or block i 0 ≡ 10 → ⊥) → i + 1 + line_length (drop (i + 1) block) ≡ i + line_length (drop i block)
unfolding line_length
end_on block i h n = rw (add-one i, drop-cons block i 0 h, ne_eqb (get_or block i 0) 10 n) (omega arith)

pub end_past : (block : List ℕ) (i : ℕ) → length block ≤ i → line_length (drop i block) ≡ 0
unfolding line_length
end_past block i h = rw (drop_of_length-le block h)

pub line_inside : (bs : List ℕ) → line_length bs ≤ length bs
unfolding line_length
line_inside [] = omega arith
line_inside (b ∷ bs) = told (eqb b 10) (line_inside bs)
  where
    told : (q : Bool) → line_length bs ≤ length bs → cond q 0 (suc (line_length bs)) ≤ suc (length bs)
    told true h = omega arith
    told false h = omega (arith, h)

-- the place that a search finds, or the length
pub found : (text : List ℕ) → unwrap_or (position (λ b. eqb b 10) text) (length text) ≡ line_length text
found text = rw is_position (told (ltb (position_or_len (λ b. eqb b 10) text) (length text)) refl)
  where
    inside : position_or_len (λ b. eqb b 10) text ≤ length text
    inside = omega (arith, is_position text, line_inside text)

    told : (q : Bool) → ltb (position_or_len (λ b. eqb b 10) text) (length text) ≡ q → unwrap_or (cond q (Some (position_or_len (λ b. eqb b 10) text)) None) (length text) ≡ position_or_len (λ b. eqb b 10) text
    told true e = refl
    told false e = omega (arith, inside, ltb-false (position_or_len (λ b. eqb b 10) text) (length text) e)

ends-turn : (b : ℕ) (bs : List ℕ) → (line_length bs < length bs → get_or bs (line_length bs) 0 ≡ 10) → (q : Bool) → eqb b 10 ≡ q → line_length (b ∷ bs) < suc (length bs) → get_or (b ∷ bs) (line_length (b ∷ bs)) 0 ≡ 10
unfolding line_length
ends-turn b bs k true e h = rw e (eqb-true b 10 e)
ends-turn b bs k false e h = let l : suc (line_length bs) < suc (length bs) = rw e at h in rw e (k (omega (arith, l)))

ends_there : (bs : List ℕ) → line_length bs < length bs → get_or bs (line_length bs) 0 ≡ 10
ends_there [] h = absurd (omega (arith, h))
ends_there (b ∷ bs) h = ends-turn b bs (ends_there bs) (eqb b 10) refl h

pub part-ends : (block : List ℕ) (i end : ℕ) → i < length block → end ≡ i + line_length (drop i block) → end < length block → get_or block end 0 ≡ 10
part-ends block i end h e l =
    ap (λ (k : ℕ). get_or block k 0) e
    ∙ (sym (get_or-drop i block (line_length (drop i block)) 0) ∙ ends_there (drop i block) (omega (arith, e, l, h, length-drop i block)))

pub part-inside : (block : List ℕ) (i end : ℕ) → i < length block → end ≡ i + line_length (drop i block) → end ≤ length block
part-inside block i end h e = omega (arith, e, h, line_inside (drop i block), length-drop i block)

pub part-after : (block : List ℕ) (i end : ℕ) → end ≡ i + line_length (drop i block) → i ≤ end
part-after block i end e = omega (arith, e)

-- where no character is left, the search has come to the end
pub end_is : (i : ℕ) (rest : List ℕ) → line_length rest ≡ 0 → i ≡ i + line_length rest
end_is i rest e = omega (arith, e)
