-- The line begun, as a list without bound, and the row that stands for it.
use mathlib.Core.Path.{◌≡◌, refl, sym, ap, ◌∙◌}
use mathlib.Core.Bool.{Bool, true, false}
use mathlib.Core.Logic.{◌⊎◌, inl, inr, ⊎_elim}
use mathlib.Core.List.{List, [], ◌∷◌, ◌++◌}
use Prim.Native.Nat.{ℕ, zero, suc, ◌+◌, ◌≤◌, ◌<◌}
use native.Mathlib.Omega.{arith}
use lib.ListN.{length, take, set, length-set, length-append}
use lib.Seq.{take-suc-set, take_all}
use lib.Dec.{ltb}
use borrow.Author.Tests.{lt-ltb, le-ltb, ltb-true, ltb-false}
use Rattle.line_blocks.specs.Mirror.Rows.{Row, row, pushed}

-- the whole line stands in the buffer
pub record Whole (w : Row) (line : List ℕ) : Type 0 where
  pub short : w.long ≡ false
  pub count : w.used ≡ length line
  pub text : take w.used w.line ≡ line
  pub inside : length line ≤ length w.line

-- it was too long for the buffer
pub record Cut (w : Row) (line : List ℕ) : Type 0 where
  pub long : w.long ≡ true
  pub over : length w.line < length line
  pub filled : length w.line ≤ w.used
  pub text : take w.used w.line ≡ take (length w.line) line

pub record Begun (limit : ℕ) (w : Row) (line : List ℕ) : Type 0 where
  pub room : length w.line ≡ limit
  pub state : Whole w line ⊎ Cut w line

pub begun-none : (buffer : List ℕ) → Begun (length buffer) (row buffer 0 false) []
begun-none buffer = record { room = refl; state = inl (record { short = refl; count = refl; text = refl; inside = omega arith }) }

less-or-not : (a b : ℕ) (t : Bool) → ltb a b ≡ t → (a < b) ⊎ (b ≤ a)
less-or-not a b true e = inl (ltb-true a b e)
less-or-not a b false e = inr (ltb-false a b e)

-- a start is one of the line with a character more
take_more : (n : ℕ) (line more : List ℕ) → n ≤ length line → take n (line ++ more) ≡ take n line
take_more zero line more h = refl
take_more (suc n) [] more h = absurd (omega (arith, h))
take_more (suc n) (c ∷ line) more h = ap (λ (l : List ℕ). c ∷ l) (take_more n line more (omega (arith, h)))

length_more : (line : List ℕ) (b : ℕ) → length (line ++ (b ∷ [])) ≡ suc (length line)
length_more line b = length-append line (b ∷ []) ∙ omega arith

module _ (b : ℕ) (w : Row) (line : List ℕ) where
  abbrev Grown : Row → Type 0
  Grown v = (length v.line ≡ length w.line) × (Whole v (line ++ (b ∷ [])) ⊎ Cut v (line ++ (b ∷ [])))

  push-whole : w.used < length w.line → Whole w line → Grown (pushed b w)
  unfolding pushed
  push-whole h s =
      let n : w.used + 1 ≡ suc w.used = omega arith in
      let k : length (set w.line w.used b) ≡ length w.line = length-set w.line w.used b in
      let c : w.used ≡ length line = s.count in
      rw (lt-ltb w.used (length w.line) h) (
        k,
        inl (record {
          short = s.short;
          count = n ∙ (ap suc c ∙ sym (length_more line b));
          text = rw n (take-suc-set w.line w.used b h ∙ ap (λ (l : List ℕ). l ++ (b ∷ [])) s.text);
          inside = rw (length_more line b, k) (omega arith);
        }),
      )

  push-cut : length w.line ≤ w.used → length w.line ≤ length line → take w.used w.line ≡ take (length w.line) line → Grown (pushed b w)
  unfolding pushed
  push-cut h k t =
      rw (le-ltb w.used (length w.line) h)
      (refl, inr (record { long = refl; over = rw (length_more line b) (omega arith); filled = h; text = t ∙ sym (take_more (length w.line) line (b ∷ []) k) }))

  push-grows : Whole w line ⊎ Cut w line → Grown (pushed b w)
  push-grows =
      ⊎_elim
      (λ s.
      let c : w.used ≡ length line = s.count in
      ⊎_elim (λ h. push-whole h s) (λ h. push-cut h (omega arith) (s.text ∙ sym (take_all (length w.line) line s.inside))) (less-or-not w.used (length w.line) (ltb w.used (length w.line)) refl))
      (λ s. let o : length w.line < length line = s.over in push-cut s.filled (omega arith) s.text)

-- one character more
pub begun_more : (limit b : ℕ) (w : Row) (line : List ℕ) → Begun limit w line → Begun limit (pushed b w) (line ++ (b ∷ []))
begun_more limit b w line g =
    let s = push-grows b w line g.state in
    record { room = s.0 ∙ g.room; state = s.1 }

-- what stands in the buffer is the line's start, all of it that there is room for
pub begun-text : (limit : ℕ) (w : Row) (line : List ℕ) → Begun limit w line → take w.used w.line ≡ take limit line
begun-text limit w line g =
    ⊎_elim
    (λ s. s.text ∙ sym (take_all limit line (omega (arith, s.inside, g.room))))
    (λ s. s.text ∙ ap (λ (n : ℕ). take n line) g.room)
    g.state
