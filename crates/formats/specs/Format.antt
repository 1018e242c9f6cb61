-- A format: the text of each value, the values that have one, and how a value is read from a position of a text on.
use Rattle.std.specs.Prelude.{ℕ, List, [], ◌++◌, Bool, ◌&&◌}

-- a value with the position past its text, or the position of the first character with which no value's text goes on
pub data Out (A : Type 0) : Type 0 where
  got : A → ℕ → Out A
  stop : ℕ → Out A

abbrev pub on_out {ℓ} : {A : Type 0} {X : Type ℓ} → Out A → (ℕ → X) → (A → ℕ → X) → X
on_out (got v e) x f = f v e
on_out (stop k) x f = x k

-- of a lawful format what `read` answers follows from `print` and `good` alone: proofs/Law.antt
pub record Format (A : Type 0) : Type 0 where
  pub print : A → List ℕ
  pub good : A → Bool
  pub read : List ℕ → ℕ → Out A

-- one format after another, which may depend on the first one's value
unfoldable pub pair : {A B : Type 0} → Format A → (A → Format B) → Format (A × B)
pair f g =
    record {
      print = λ v. f.print v.0 ++ (g v.0).print v.1;
      good = λ v. f.good v.0 && (g v.0).good v.1;
      read = λ s at. on_out (f.read s at) stop (λ a e. on_out ((g a).read s e) stop (λ b d. got (a, b) d));
    }

-- the same texts for other values
unfoldable pub through : {A B : Type 0} → (A → B) → (B → A) → (B → Bool) → Format A → Format B
through to from good f =
    record {
      print = λ b. f.print (from b);
      good = good;
      read = λ s at. on_out (f.read s at) stop (λ a e. got (to a) e);
    }

-- the empty text, for the one value that the test accepts
unfoldable pub blank : {A : Type 0} → A → (A → Bool) → Format A
blank v test = record { print = λ _. []; good = test; read = λ s at. got v at }
