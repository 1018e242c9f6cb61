-- A whole text read by a format, and what the position says at which reading stops.
use Rattle.std.specs.Prelude.{ℕ, suc, ◌≤◌, ◌≡◌, List, ◌++◌, ◌⊎◌, true, cond, eqb, length, take}
use Rattle.formats.specs.Format.{Out, got, stop, on_out, Format}

-- nothing may follow the value's text
unfoldable pub whole : {A : Type 0} → Format A → List ℕ → Out A
whole f t = on_out (f.read t 0) stop (λ v e. cond (eqb e (length t)) (got v e) (stop e))

-- some value's text begins with p
pub record Viable {A : Type 0} (f : Format A) (p : List ℕ) : Type 0 where
  pub value : A
  pub fine : f.good value ≡ true
  pub rest : List ℕ
  pub text : f.print value ≡ p ++ rest

-- The column is k + 1: the first k characters begin some value's text, and either the text ends there or its first k + 1 begin none.
pub record Column {A : Type 0} (f : Format A) (t : List ℕ) (k : ℕ) : Type 0 where
  pub inside : k ≤ length t
  pub before : Viable f (take k t)
  pub here : (k ≡ length t) ⊎ (Viable f (take (suc k) t) → ⊥)
