-- The law of a format: what `read` answers, for every text and position, told by `print` and `good` alone.
use mathlib.Core.Path.{◌≡◌, refl, subst}
use mathlib.Core.List.{List, [], ◌∷◌, ◌++◌}
use mathlib.Core.Logic.{◌⊎◌}
use mathlib.Core.Bool.{Bool, true, false}
use Prim.Native.Nat.{ℕ, ◌+◌, ◌≤◌}
use lib.ListN.{length, drop}
use Rattle.formats.specs.Format.{Out, got, stop, Format}
use Rattle.formats.specs.Mirror.Scan.{common}
use Rattle.formats.proofs.Agree.{same, ends}

-- `m` are the characters that may not follow a value's text. A value is read where its text stands, and every other value's text parts
-- from what stands there by the end of it.
pub record Got {A : Type 0} (f : Format A) (m : ℕ → Bool) (s : List ℕ) (at : ℕ) (v : A) (e : ℕ) : Type 0 where
  pub fine : f.good v ≡ true
  pub end : e ≡ at + length (f.print v)
  pub text : drop at s ≡ f.print v ++ drop e s
  pub only : (w : A) (u : List ℕ) → f.good w ≡ true → ends m u ≡ true → (w ≡ v) ⊎ (at + same (drop at s) (f.print w ++ u) ≤ e)

-- some value's text agrees with what stands here up to k, and none does further
pub record Stopped {A : Type 0} (f : Format A) (m : ℕ → Bool) (s : List ℕ) (at : ℕ) (k : ℕ) : Type 0 where
  pub most : A
  pub fine : f.good most ≡ true
  pub reach : k ≤ at + common (drop at s) (f.print most)
  pub none : (w : A) (u : List ℕ) → f.good w ≡ true → ends m u ≡ true → at + same (drop at s) (f.print w ++ u) ≤ k

abbrev pub Right : {A : Type 0} → Format A → (ℕ → Bool) → List ℕ → ℕ → Out A → Type 0
Right f m s at (got v e) = Got f m s at v e
Right f m s at (stop k) = Stopped f m s at k

pub record Lawful {A : Type 0} (f : Format A) (m : ℕ → Bool) : Type 0 where
  pub right : (s : List ℕ) (at : ℕ) → Right f m s at (f.read s at)
  pub some : A
  pub fine : f.good some ≡ true

-- no character is kept from following
abbrev pub free : ℕ → Bool
free c = false

pub ends-free : (u : List ℕ) → ends free u ≡ true
ends-free [] = refl
ends-free (c ∷ u) = refl

-- a law that keeps fewer characters from following holds where more are kept
pub keep-more : {A : Type 0} {f : Format A} {m n : ℕ → Bool} → ((u : List ℕ) → ends n u ≡ true → ends m u ≡ true) → Lawful f m → Lawful f n
keep-more {A} {f} {m} {n} more law = record { right = λ s at. on s at (f.read s at) (law.right s at); some = law.some; fine = law.fine }
  where
    on : (s : List ℕ) (at : ℕ) (o : Out A) → Right f m s at o → Right f n s at o
    on s at (got v e) r = record { fine = r.fine; end = r.end; text = r.text; only = λ w u h z. r.only w u h (more u z) }
    on s at (stop k) r = record { most = r.most; fine = r.fine; reach = r.reach; none = λ w u h z. r.none w u h (more u z) }

pub weaken : {A : Type 0} {f : Format A} (n : ℕ → Bool) → Lawful f free → Lawful f n
weaken n law = keep-more (λ u _. ends-free u) law

-- what is read is good
pub read-good : {A : Type 0} {f : Format A} {m : ℕ → Bool} → Lawful f m → (s : List ℕ) (at : ℕ) (v : A) (e : ℕ) → f.read s at ≡ got v e → f.good v ≡ true
read-good {f} {m} law s at v e p = let r : Got f m s at v e = subst (Right f m s at) p (law.right s at) in r.fine
