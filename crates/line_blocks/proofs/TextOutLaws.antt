-- What is put out byte by byte is what is put out line by line; a part of a block up to the next 0x0a joins the line begun.
use mathlib.Core.Path.{◌≡◌, refl, sym, ap, ap₂, ◌∙◌}
use mathlib.Core.Bool.{Bool, true, false, cond}
use mathlib.Core.Logic.{⊎_elim}
use mathlib.Core.List.{List, [], ◌∷◌, ◌++◌, map, flatten, append-nil}
use Prim.Native.Nat.{ℕ, suc, ◌+◌, ◌-◌, ◌≤◌, ◌<◌}
use native.Mathlib.Omega.{arith}
use native.Mathlib.Numerals.{add-one}
use lib.ListN.{length, get_or, take, drop, drop_of_length-le}
use lib.Seq.{drop-cons, drop-drop}
use lib.Dec.{eqb, eqb-suc-zero}
use borrow.Author.Tests.{lt-ltb, eq-eqb}
use Rattle.line_blocks.specs.LinesOf.{lines_from, lines_of}
use Rattle.line_blocks.specs.Mirror.Rows.{Row, row, is_begun, pushed, all_pushed, line_length}
use Rattle.line_blocks.specs.Mirror.TextOut.{cleared, text_out}
use Rattle.line_blocks.proofs.RowLaws.{Begun, begun-none, begun_more}
use Rattle.line_blocks.proofs.PartLaws.{part-ends}

-- ---- line by line

-- what is put out for a row is what is put out for the line that it stands for
abbrev pub Agree : ℕ → (Row → List ℕ) → (List ℕ → List ℕ) → Type 0
Agree limit f g = (w : Row) (line : List ℕ) → Begun limit w line → f w ≡ g line

used-begun : (x : List ℕ) (long : Bool) (used : ℕ) (w : Row) → w.long ≡ long → w.used ≡ used → 0 < used → cond (is_begun w.used w.long) x [] ≡ x
unfolding is_begun
used-begun x true used w e u h = rw e
used-begun x false used w e u h = rw (e, u, lt-ltb 0 used h)

long-begun : (x : List ℕ) (w : Row) → w.long ≡ true → cond (is_begun w.used w.long) x [] ≡ x
unfolding is_begun
long-begun x w e = rw e

none-begun : (x : List ℕ) (w : Row) → w.long ≡ false → w.used ≡ 0 → cond (is_begun w.used w.long) x [] ≡ []
unfolding is_begun
none-begun x w e u = rw (e, u)

module _ (limit : ℕ) (f : Row → List ℕ) (g : List ℕ → List ℕ) (agree : Agree limit f g) where
  ended : (w : Row) (line : List ℕ) → Begun limit w line → text_out f w [] ≡ flatten (map g (lines_from line []))
  unfolding text_out lines_from flatten
  ended w [] s =
      ⊎_elim (λ s. none-begun (f w) w s.short s.count) (λ s. absurd (omega (arith, s.over))) s.state
  ended w (c ∷ line) s =
      rw (eqb-suc-zero (length line))
      (⊎_elim
      (λ t. used-begun (f w) w.long (suc (length line)) w refl t.count (omega arith))
      (λ t. long-begun (f w) w t.long)
      s.state
      ∙ agree w (c ∷ line) s ∙ sym (append-nil (g (c ∷ line))))

  cleared-begun : (w : Row) (line : List ℕ) → Begun limit w line → Begun limit (cleared w) []
  cleared-begun w line s = rw (sym s.room) (begun-none w.line)

  turn : (b : ℕ) (text : List ℕ) → ((w : Row) (line : List ℕ) → Begun limit w line → text_out f w text ≡ flatten (map g (lines_from line text))) →
      (w : Row) (line : List ℕ) → Begun limit w line → (ends : Bool) →
      cond ends (f w ++ text_out f (cleared w) text) (text_out f (pushed b w) text) ≡ flatten (map g (cond ends (line ∷ lines_from [] text) (lines_from (line ++ (b ∷ [])) text)))
  unfolding flatten
  turn b text k w line s true = ap₂ (λ (x y : List ℕ). x ++ y) (agree w line s) (k (cleared w) [] (cleared-begun w line s))
  turn b text k w line s false = k (pushed b w) (line ++ (b ∷ [])) (begun_more limit b w line s)

  pub text-from : (text : List ℕ) (w : Row) (line : List ℕ) → Begun limit w line → text_out f w text ≡ flatten (map g (lines_from line text))
  unfolding text_out lines_from
  text-from [] w line s = ended w line s
  text-from (b ∷ text) w line s = turn b text (text-from text) w line s (eqb b 10)

-- whatever stood in the buffer before
pub text-lines : (f : Row → List ℕ) (g : List ℕ → List ℕ) (buffer : List ℕ) → Agree (length buffer) f g → (text : List ℕ) → text_out f (row buffer 0 false) text ≡ flatten (map g (lines_of text))
unfolding lines_of
text-lines f g buffer agree text = text-from (length buffer) f g agree text (row buffer 0 false) [] (begun-none buffer)

-- ---- part by part

module _ (f : Row → List ℕ) where
  pushes : (bs later : List ℕ) (w : Row) → text_out f w (bs ++ later) ≡ text_out f (all_pushed (take (line_length bs) bs) w) (drop (line_length bs) bs ++ later)
  unfolding text_out line_length all_pushed
  pushes [] later w = refl
  pushes (b ∷ bs) later w = told (eqb b 10) refl (λ v. pushes bs later v)
    where
      told : (q : Bool) → eqb b 10 ≡ q → ((v : Row) → text_out f v (bs ++ later) ≡ text_out f (all_pushed (take (line_length bs) bs) v) (drop (line_length bs) bs ++ later)) →
          cond (eqb b 10) (f w ++ text_out f (cleared w) (bs ++ later)) (text_out f (pushed b w) (bs ++ later))
          ≡ text_out f (all_pushed (take (cond (eqb b 10) 0 (suc (line_length bs))) (b ∷ bs)) w) (drop (cond (eqb b 10) 0 (suc (line_length bs))) (b ∷ bs) ++ later)
      told true e k = rw e (rw e)
      told false e k = rw e (k (pushed b w))

  -- the characters up to the next 0x0a
  pub part_out : (block later : List ℕ) (i end : ℕ) (w v : Row) → end ≡ i + line_length (drop i block) → v ≡ all_pushed (take (end - i) (drop i block)) w →
      text_out f v (drop end block ++ later) ≡ text_out f w (drop i block ++ later)
  part_out block later i end w v e p =
      let k : end - i ≡ line_length (drop i block) = omega (arith, e) in
      let row_is : v ≡ all_pushed (take (line_length (drop i block)) (drop i block)) w = p ∙ ap (λ (n : ℕ). all_pushed (take n (drop i block)) w) k in
      let rest_is : drop end block ≡ drop (line_length (drop i block)) (drop i block) = ap (λ (n : ℕ). drop n block) e ∙ sym (drop-drop (line_length (drop i block)) i block) in
      ap₂ (λ (x : Row) (y : List ℕ). text_out f x (y ++ later)) row_is rest_is ∙ sym (pushes (drop i block) later w)

  -- the line's end
  pub line-out : (block later : List ℕ) (i end : ℕ) (w : Row) → i < length block → end ≡ i + line_length (drop i block) → end < length block →
      text_out f w (drop end block ++ later) ≡ f w ++ text_out f (cleared w) (drop (end + 1) block ++ later)
  unfolding text_out
  line-out block later i end w h e l = rw (add-one end, drop-cons block end 0 l, eq-eqb (get_or block end 0) 10 (part-ends block i end h e l))

  -- nothing is left of the block
  pub over-out : (block later : List ℕ) (i : ℕ) (w : Row) → length block ≤ i → text_out f w (drop i block ++ later) ≡ text_out f w later
  over-out block later i w h = ap (λ (l : List ℕ). text_out f w (l ++ later)) (drop_of_length-le block h)

  -- the text's end is the end of the line that is begun
  pub last_out : (line : List ℕ) (used : ℕ) (long : Bool) → text_out f (row line used long) (cond (is_begun used long) (10 ∷ []) []) ≡ text_out f (row line used long) []
  unfolding text_out is_begun
  last_out line used long = told (is_begun used long) refl
    where
      told : (q : Bool) → is_begun used long ≡ q → text_out f (row line used long) (cond q (10 ∷ []) []) ≡ cond q (f (row line used long)) []
      told true e = append-nil (f (row line used long))
      told false e = rw e
