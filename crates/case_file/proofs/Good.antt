-- A good frame is of one of eleven kinds.
use mathlib.Core.Path.{◌≡◌, sym, ◌∙◌}
use mathlib.Core.Bool.{Bool, true, false, true≢false, ◌||◌}
use mathlib.Core.List.{List, [], ◌∷◌}
use Prim.Native.Nat.{ℕ, zero, suc, ◌≤◌, ◌<◌}
use native.Mathlib.Omega.{arith}
use lib.ListN.{length}
use lib.Dec.{eqb}
use borrow.Author.Tests.{eqb-true, leb-true, ne_eqb, le-leb, lt-leb}
use Rattle.case_file.specs.Frames.{kind_of, content_of}
use Rattle.case_file.specs.BadLine.{content_good}
use Rattle.case_file.proofs.Plain as plain
use Rattle.case_file.proofs.Plain.{Plain}

-- as many bytes as a predicate's content has, without its count byte or with it
abbrev pub four_or_five : List ℕ → Bool
four_or_five c = eqb (length c) 4 || eqb (length c) 5

pub data Good : List ℕ → Type 0 where
  content : (k : ℕ) → Plain k → (c : List ℕ) → Good (k ∷ c)
  variable : (c : List ℕ) → length c ≡ 5 → Good (2 ∷ c)
  predicate : (c : List ℕ) → four_or_five c ≡ true → Good (3 ∷ c)
  surface : (c : List ℕ) → Good (4 ∷ c)
  memory : (c : List ℕ) → 8 ≤ length c → Good (5 ∷ c)
  mask : (c : List ℕ) → length c ≡ 4 → Good (6 ∷ c)
  register_size : (c : List ℕ) → length c ≡ 1 → Good (11 ∷ c)

-- a kind past 0x0b
late : (k : ℕ) (c : List ℕ) → 11 < k → content_good k c ≡ false
unfolding content_good
late k c h =
    rw (ne_eqb k 2 (λ e. absurd (omega arith)), ne_eqb k 3 (λ e. absurd (omega arith)), ne_eqb k 5 (λ e. absurd (omega arith)), ne_eqb k 6 (λ e. absurd (omega arith)), ne_eqb k 11 (λ e. absurd (omega arith)), le-leb 1 k (omega arith), lt-leb k 10 (omega arith))

pub good-frame : (f : List ℕ) → content_good (kind_of f) (content_of f) ≡ true → Good f
unfolding content_good
good-frame [] e = absurd (true≢false (sym e))
good-frame (zero ∷ c) e = absurd (true≢false (sym e))
good-frame (suc zero ∷ c) e = content 1 plain.registers c
good-frame (suc (suc zero) ∷ c) e = variable c (eqb-true (length c) 5 e)
good-frame (suc (suc (suc zero)) ∷ c) e = predicate c e
good-frame (suc (suc (suc (suc zero))) ∷ c) e = surface c
good-frame (suc (suc (suc (suc (suc zero)))) ∷ c) e = memory c (leb-true 8 (length c) e)
good-frame (suc (suc (suc (suc (suc (suc zero))))) ∷ c) e = mask c (eqb-true (length c) 4 e)
good-frame (suc (suc (suc (suc (suc (suc (suc zero)))))) ∷ c) e = content 7 plain.kernel c
good-frame (suc (suc (suc (suc (suc (suc (suc (suc zero))))))) ∷ c) e = content 8 plain.register_taint c
good-frame (suc (suc (suc (suc (suc (suc (suc (suc (suc zero)))))))) ∷ c) e = content 9 plain.surface_taint c
good-frame (suc (suc (suc (suc (suc (suc (suc (suc (suc (suc zero))))))))) ∷ c) e = content 10 plain.memory_taint c
good-frame (suc (suc (suc (suc (suc (suc (suc (suc (suc (suc (suc zero)))))))))) ∷ c) e = register_size c (eqb-true (length c) 1 e)
good-frame (suc (suc (suc (suc (suc (suc (suc (suc (suc (suc (suc (suc k))))))))))) ∷ c) e =
    absurd (true≢false (sym e ∙ late (suc (suc (suc (suc (suc (suc (suc (suc (suc (suc (suc (suc k)))))))))))) c (omega arith)))
