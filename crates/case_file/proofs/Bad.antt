-- A frame that is not good is a bad line.
use mathlib.Core.Path.{◌≡◌, refl, ap, ◌∙◌}
use mathlib.Core.Bool.{Bool, true, false, true≢false, ◌&&◌, ◌||◌}
use mathlib.Core.List.{List, [], ◌∷◌}
use Prim.Native.Nat.{ℕ, zero, suc, ◌<◌}
use native.Mathlib.Omega.{arith}
use lib.ListN.{length}
use lib.Dec.{eqb, ltb, leb}
use borrow.Author.Tests.{lt-ltb, ne_eqb, leb-false}
use Rattle.hex_text.proofs.DigitLaws.{cond_both}
use Rattle.tally.specs.Mirror.Reading.{Reading}
use Rattle.tally.specs.Mirror.Lines.{KINDS, next, bad_line, met_of}
use Rattle.table_frames.specs.Mirror.Repeated.{variable_read, predicate_sized, predicate_read}
use Rattle.once_frames.specs.Mirror.Once.{Once, memory_read, mask_read, register_size_read, once_read}
use Rattle.frames.specs.Mirror.Frames.{frame_read}
use Rattle.case_file.specs.Frames.{kind_of, content_of}
use Rattle.case_file.specs.BadLine.{repeats, content_good}
use Rattle.case_file.proofs.ByKind.{Kinds}
use Rattle.case_file.proofs.Good.{four_or_five}
use Rattle.case_file.proofs.Counted.{Judges}

module _ (r : Reading) where
  abbrev Bad : ℕ → List ℕ → Type 0
  Bad kind f = (frame_read kind f r).case.bad ≡ next r.case.lines

  -- one more of a kind that comes once at most
  second : (k : ℕ) (f : List ℕ) → eqb k 2 ≡ false → eqb k 3 ≡ false → eqb k 4 ≡ false → ltb 0 (met_of k r.case) ≡ true → Bad k f
  unfolding frame_read once_read bad_line
  second k f e₂ e₃ e₄ m = rw (e₂, e₃, e₄, m) refl

  -- none of the eleven kinds
  unlisted : (k : ℕ) (f : List ℕ) → eqb k 1 ≡ false → eqb k 2 ≡ false → eqb k 3 ≡ false → eqb k 4 ≡ false → eqb k 5 ≡ false → eqb k 6 ≡ false → eqb k 7 ≡ false → eqb k 8 ≡ false → eqb k 9 ≡ false → eqb k 10 ≡ false → eqb k 11 ≡ false → Bad k f
  unfolding frame_read once_read bad_line
  unlisted k f e₁ e₂ e₃ e₄ e₅ e₆ e₇ e₈ e₉ e₁₀ e₁₁ =
      rw (e₂, e₃, e₄)
      (cond_both (λ (o : Once). o.case.bad ≡ next r.case.lines) (ltb 0 (met_of k r.case)) (λ _. refl) (λ _. rw (e₁, e₅, e₆, e₇, e₈, e₉, e₁₀, e₁₁) refl))

  late : (k : ℕ) (f : List ℕ) → 11 < k → Bad k f
  late k f h =
      unlisted k f (ne_eqb k 1 (λ e. absurd (omega arith))) (ne_eqb k 2 (λ e. absurd (omega arith))) (ne_eqb k 3 (λ e. absurd (omega arith))) (ne_eqb k 4 (λ e. absurd (omega arith))) (ne_eqb k 5 (λ e. absurd (omega arith)))
      (ne_eqb k 6 (λ e. absurd (omega arith))) (ne_eqb k 7 (λ e. absurd (omega arith))) (ne_eqb k 8 (λ e. absurd (omega arith))) (ne_eqb k 9 (λ e. absurd (omega arith))) (ne_eqb k 10 (λ e. absurd (omega arith))) (ne_eqb k 11 (λ e. absurd (omega arith)))

  variable-bad : (c : List ℕ) → eqb (length c) 5 ≡ false → Bad 2 (2 ∷ c)
  unfolding frame_read variable_read bad_line
  variable-bad c e = rw e refl

  predicate-bad : (c : List ℕ) → four_or_five c ≡ false → Bad 3 (3 ∷ c)
  unfolding frame_read predicate_read predicate_sized bad_line
  predicate-bad c e = rw e refl

  memory-bad : (c : List ℕ) → leb 8 (length c) ≡ false → Bad 5 (5 ∷ c)
  unfolding frame_read once_read memory_read bad_line
  memory-bad c e =
      cond_both (λ (o : Once). o.case.bad ≡ next r.case.lines) (ltb 0 (met_of 5 r.case)) (λ _. refl)
      (λ _. rw (lt-ltb (length c) 8 (leb-false 8 (length c) e)) refl)

  mask-bad : (c : List ℕ) → eqb (length c) 4 ≡ false → Bad 6 (6 ∷ c)
  unfolding frame_read once_read mask_read bad_line
  mask-bad c e =
      cond_both (λ (o : Once). o.case.bad ≡ next r.case.lines) (ltb 0 (met_of 6 r.case)) (λ _. refl) (λ _. rw e refl)

  register-size-bad : (c : List ℕ) → eqb (length c) 1 ≡ false → Bad 11 (11 ∷ c)
  unfolding frame_read once_read register_size_read bad_line
  register-size-bad c e =
      cond_both (λ (o : Once). o.case.bad ≡ next r.case.lines) (ltb 0 (met_of 11 r.case)) (λ _. refl) (λ _. rw e refl)

left_false : (a : Bool) → (a && true) ≡ false → a ≡ false
left_false true e = e
left_false false e = refl

either-false : {P : Type 0} (a b : Bool) → (a ≡ false → P) → (b ≡ false → P) → (a && b) ≡ false → P
either-false true b p q e = q e
either-false false b p q e = p refl

positive : (n : ℕ) → eqb n 0 ≡ false → ltb 0 n ≡ true
positive zero e = absurd (true≢false e)
positive (suc n) e = lt-ltb 0 (suc n) (omega arith)

module _ (g : Kinds) (n : ℕ) (r : Reading) (j : Judges g n r.case) where
  some : (k : ℕ) → k < KINDS → repeats k ≡ false → eqb (length (g k)) 0 ≡ false → ltb 0 (met_of k r.case) ≡ true
  some k h once e = ap (ltb 0) (j.met k h once) ∙ positive (length (g k)) e

  pub frame-bad : (f : List ℕ) → (content_good (kind_of f) (content_of f) && (repeats (kind_of f) || eqb (length (g (kind_of f))) 0)) ≡ false → Bad r (kind_of f) f
  unfolding repeats content_good
  frame-bad [] e = unlisted r 0 [] refl refl refl refl refl refl refl refl refl refl refl
  frame-bad (zero ∷ c) e = unlisted r 0 (0 ∷ c) refl refl refl refl refl refl refl refl refl refl refl
  frame-bad (suc zero ∷ c) e = second r 1 (1 ∷ c) refl refl refl (some 1 (omega arith) refl e)
  frame-bad (suc (suc zero) ∷ c) e = variable-bad r c (left_false (eqb (length c) 5) e)
  frame-bad (suc (suc (suc zero)) ∷ c) e = predicate-bad r c (left_false (four_or_five c) e)
  frame-bad (suc (suc (suc (suc zero))) ∷ c) e = absurd (true≢false e)
  frame-bad (suc (suc (suc (suc (suc zero)))) ∷ c) e =
      either-false (leb 8 (length c)) (eqb (length (g 5)) 0) (memory-bad r c) (λ m. second r 5 (5 ∷ c) refl refl refl (some 5 (omega arith) refl m)) e
  frame-bad (suc (suc (suc (suc (suc (suc zero))))) ∷ c) e =
      either-false (eqb (length c) 4) (eqb (length (g 6)) 0) (mask-bad r c) (λ m. second r 6 (6 ∷ c) refl refl refl (some 6 (omega arith) refl m)) e
  frame-bad (suc (suc (suc (suc (suc (suc (suc zero)))))) ∷ c) e = second r 7 (7 ∷ c) refl refl refl (some 7 (omega arith) refl e)
  frame-bad (suc (suc (suc (suc (suc (suc (suc (suc zero))))))) ∷ c) e = second r 8 (8 ∷ c) refl refl refl (some 8 (omega arith) refl e)
  frame-bad (suc (suc (suc (suc (suc (suc (suc (suc (suc zero)))))))) ∷ c) e = second r 9 (9 ∷ c) refl refl refl (some 9 (omega arith) refl e)
  frame-bad (suc (suc (suc (suc (suc (suc (suc (suc (suc (suc zero))))))))) ∷ c) e = second r 10 (10 ∷ c) refl refl refl (some 10 (omega arith) refl e)
  frame-bad (suc (suc (suc (suc (suc (suc (suc (suc (suc (suc (suc zero)))))))))) ∷ c) e =
      either-false (eqb (length c) 1) (eqb (length (g 11)) 0) (register-size-bad r c) (λ m. second r 11 (11 ∷ c) refl refl refl (some 11 (omega arith) refl m)) e
  frame-bad (suc (suc (suc (suc (suc (suc (suc (suc (suc (suc (suc (suc k))))))))))) ∷ c) e =
      late r (suc (suc (suc (suc (suc (suc (suc (suc (suc (suc (suc (suc k)))))))))))) (suc (suc (suc (suc (suc (suc (suc (suc (suc (suc (suc (suc k))))))))))) ∷ c) (omega arith)
