-- The fold over the lines: the loader's first bad line is the case file's, and where there is none it holds what the frames say.
use mathlib.Core.Path.{◌≡◌, refl, sym, ap, subst, ◌∙◌}
use mathlib.Core.Bool.{Bool, true, false, true≢false, ◌&&◌, ◌||◌}
use mathlib.Core.Logic.{inr, ⊎_elim}
use mathlib.Core.List.{List, [], ◌∷◌, ◌++◌, map, append-nil}
use Prim.Native.Nat.{ℕ, suc, ◌≤◌, ◌<◌, min}
use native.Mathlib.Nat.{min-eq_left, min-eq_right}
use native.Mathlib.Omega.{arith}
use lib.ListN.{length}
use lib.Seq.{append_snoc}
use lib.Dec.{eqb, ltb, leb}
use borrow.Author.Tests.{leb-true, leb-false, ltb-true, ltb-false}
use Rattle.hex_text.specs.Bytes.{is_hex, hex_bytes}
use Rattle.tally.specs.Mirror.Reading.{Contents, Tables, Reading}
use Rattle.tally.specs.Mirror.Lines.{next, bad_line, long_line}
use Rattle.frames.specs.Mirror.Frames.{frame_read, line_read}
use Rattle.feeding.specs.Mirror.Text.{any_line_read, lines_read}
use Rattle.feeding.proofs.StayLaws.{all_stay}
use Rattle.case_file.specs.Frames.{kind_of, content_of}
use Rattle.case_file.specs.BadLine.{content_good, repeats, frame_good, file_line_good, first_bad}
use Rattle.case_file.specs.Output.{position_of}
use Rattle.case_file.proofs.ByKind.{Kinds, kinds_of, added, kinds-more, one_more}
use Rattle.case_file.proofs.Good.{Good, good-frame}
use Rattle.case_file.proofs.Broken.{broken-more}
use Rattle.case_file.proofs.Held.{Sizes, Held, frame-held}
use Rattle.case_file.proofs.Counted.{Judges, frame-judges, frame-full}
use Rattle.case_file.proofs.Bad.{frame-bad}

lt-le : {a b : ℕ} → a < b → a ≤ b
lt-le h = omega arith

le-suc : {a b : ℕ} → a ≤ b → a ≤ suc b
le-suc h = omega arith

and_left : (a b : Bool) → (a && b) ≡ true → a ≡ true
and_left true b e = refl
and_left false b e = e

and_right : (a b : Bool) → (a && b) ≡ true → b ≡ true
and_right true b e = e
and_right false b e = absurd (true≢false (sym e))

three-false : {P : Type 0} (a b c : Bool) → (a ≡ false → P) → (a ≡ true → b ≡ false → P) → (a ≡ true → b ≡ true → c ≡ false → P) → (a && b && c) ≡ false → P
three-false false b c p q r e = p refl
three-false true false c p q r e = q refl refl
three-false true true c p q r e = r refl refl e

-- one line, after lines that are good
module _ (before : List (List ℕ)) (line : List ℕ) (r : Reading) (b : r.case.bad ≡ 0) where
  none-bad : ltb 0 r.case.bad ≡ false
  none-bad = rw b

  good-line : file_line_good before line ≡ true → any_line_read 16386 line r ≡ frame_read (kind_of (hex_bytes line)) (hex_bytes line) r
  unfolding file_line_good any_line_read line_read
  good-line e =
      let two = and_left (leb (length line) 16386 && is_hex line) (frame_good before (hex_bytes line)) e in
      rw (and_left (leb (length line) 16386) (is_hex line) two, none-bad, and_right (leb (length line) 16386) (is_hex line) two) refl

  good-told : file_line_good before line ≡ true → frame_good before (hex_bytes line) ≡ true
  unfolding file_line_good
  good-told e = and_right (leb (length line) 16386 && is_hex line) (frame_good before (hex_bytes line)) e

  bad-line : (n : ℕ) → Judges (kinds_of before) n r.case → file_line_good before line ≡ false → (any_line_read 16386 line r).case.bad ≡ next r.case.lines
  unfolding file_line_good any_line_read line_read long_line bad_line frame_good
  bad-line n j e =
      three-false (leb (length line) 16386) (is_hex line) (frame_good before (hex_bytes line))
      (λ x. rw (x, none-bad) refl)
      (λ x y. rw (x, none-bad, y) refl)
      (λ x y z. rw (x, none-bad, y) (frame-bad (kinds_of before) n r j (hex_bytes line) z))
      e

-- the loader's line numbers stay at the largest ud
next-position : (n : ℕ) → next (position_of n) ≡ position_of (suc n)
unfolding next position_of
next-position n = told (ltb n 0xffffffff) refl
  where
    told : (q : Bool) → ltb n 0xffffffff ≡ q → next (min n 0xffffffff) ≡ min (suc n) 0xffffffff
    told true e = let h = ltb-true n 0xffffffff e in rw (min-eq_left (lt-le h), min-eq_left h, e) (omega arith)
    told false e = let h = ltb-false n 0xffffffff e in rw (min-eq_right h, min-eq_right (le-suc h)) refl

pub position-positive : (n : ℕ) → 0 < position_of (suc n)
unfolding position_of
position-positive n = told (leb (suc n) 0xffffffff) refl
  where
    told : (q : Bool) → leb (suc n) 0xffffffff ≡ q → 0 < min (suc n) 0xffffffff
    told true e = rw (min-eq_left (leb-true (suc n) 0xffffffff e)) (omega arith)
    told false e = rw (min-eq_right (lt-le (leb-false (suc n) 0xffffffff e))) (omega arith)

position-more : (before : List (List ℕ)) (f : List ℕ) → next (position_of (length before)) ≡ position_of (length (before ++ (f ∷ [])))
position-more before f = next-position (length before) ∙ ap position_of (omega (arith, one_more before f))

module _ (z : Contents) (t : Tables) (s : Sizes z t) where
  -- what is so of the reading after some frames
  pub record After (before : List (List ℕ)) (r : Reading) : Type 0 where
    pub judges : Judges (kinds_of before) (position_of (length before)) r.case
    pub held : Held z t (kinds_of before) r

  frame-after : (before : List (List ℕ)) (f : List ℕ) (r : Reading) → frame_good before f ≡ true → After before r → After (before ++ (f ∷ [])) (frame_read (kind_of f) f r)
  unfolding frame_good
  frame-after before f r e a =
      let once = repeats (kind_of f) || eqb (length (kinds_of before (kind_of f))) 0 in
      let good : Good f = good-frame f (and_left (content_good (kind_of f) (content_of f)) once e) in
      let first : once ≡ true = and_right (content_good (kind_of f) (content_of f)) once e in
      let judges = frame-judges (kinds_of before) _ r a.judges f good first in
      let held : Held z t (added (kind_of f) (content_of f) (kinds_of before)) (frame_read (kind_of f) f r) =
      ⊎_elim
      (λ k. frame-held z t s (kinds_of before) r k f good first)
      (λ w. inr (frame-full (kinds_of before) _ r a.judges f good first w.0, broken-more (kind_of f) (content_of f) (kinds_of before) w.1))
      a.held in
      record {
        judges = subst (λ (g : Kinds). Judges g (position_of (length (before ++ (f ∷ [])))) (frame_read (kind_of f) f r).case) (sym (kinds-more before f)) (subst (λ (n : ℕ). Judges (added (kind_of f) (content_of f) (kinds_of before)) n (frame_read (kind_of f) f r).case) (position-more before f) judges);
        held = subst (λ (g : Kinds). Held z t g (frame_read (kind_of f) f r)) (sym (kinds-more before f)) held;
      }

  -- what the lines to come will make of it
  pub record Told (before lines : List (List ℕ)) (r : Reading) : Type 0 where
    pub bad : (lines_read 16386 lines r).case.bad ≡ position_of (first_bad before lines)
    pub held : first_bad before lines ≡ 0 → Held z t (kinds_of (before ++ map hex_bytes lines)) (lines_read 16386 lines r)

  bad-next : (before : List (List ℕ)) (line : List ℕ) (lines : List (List ℕ)) (r : Reading) → After before r → file_line_good before line ≡ false → Told before (line ∷ lines) r
  unfolding lines_read first_bad
  bad-next before line lines r a e =
      let x = any_line_read 16386 line r in
      let b : x.case.bad ≡ position_of (suc (length before)) = bad-line before line r a.judges.bad _ a.judges e ∙ (ap next a.judges.lines ∙ next-position (length before)) in
      let stay : lines_read 16386 lines x ≡ x = all_stay 16386 lines x (omega (arith, b, position-positive (length before))) in
      record {
        bad = rw e (ap (λ (y : Reading). y.case.bad) stay ∙ b);
        held = λ h. let y : suc (length before) ≡ 0 = rw e at h in absurd (omega (arith, y));
      }

  good-next : (before : List (List ℕ)) (line : List ℕ) (lines : List (List ℕ)) (r : Reading) → file_line_good before line ≡ true → Told (before ++ (hex_bytes line ∷ [])) lines (any_line_read 16386 line r) → Told before (line ∷ lines) r
  unfolding lines_read first_bad
  good-next before line lines r e w =
      record {
        bad = rw e w.bad;
        held = λ h.
            let y : first_bad (before ++ (hex_bytes line ∷ [])) lines ≡ 0 = rw e at h in
            subst (λ (l : List (List ℕ)). Held z t (kinds_of l) (lines_read 16386 lines (any_line_read 16386 line r))) (append_snoc before (hex_bytes line) (map hex_bytes lines)) (w.held y);
      }

  none-next : (before : List (List ℕ)) (r : Reading) → After before r → Told before [] r
  unfolding lines_read first_bad position_of
  none-next before r a =
      record {
        bad = a.judges.bad;
        held = λ h. subst (λ (l : List (List ℕ)). Held z t (kinds_of l) r) (sym (append-nil before)) a.held;
      }

  turn : (before : List (List ℕ)) (line : List ℕ) (lines : List (List ℕ)) (r : Reading) → After before r →
      (After (before ++ (hex_bytes line ∷ [])) (any_line_read 16386 line r) → Told (before ++ (hex_bytes line ∷ [])) lines (any_line_read 16386 line r)) → (q : Bool) → file_line_good before line ≡ q → Told before (line ∷ lines) r
  turn before line lines r a rest false e = bad-next before line lines r a e
  turn before line lines r a rest true e =
      good-next before line lines r e
      (rest (subst (After (before ++ (hex_bytes line ∷ []))) (sym (good-line before line r a.judges.bad e)) (frame-after before (hex_bytes line) r (good-told before line r a.judges.bad e) a)))

  pub lines-told : (lines before : List (List ℕ)) (r : Reading) → After before r → Told before lines r
  lines-told [] before r a = none-next before r a
  lines-told (line ∷ lines) before r a =
      turn before line lines r a
      (λ b. lines-told lines (before ++ (hex_bytes line ∷ [])) (any_line_read 16386 line r) b)
      (file_line_good before line) refl
