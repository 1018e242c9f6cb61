-- What is read behind the predicate and the name is handed on as it is.
use mathlib.Core.Path.{◌≡◌, refl}
use Rattle.formats.specs.Format.{Out, got, stop, on_out}

pub third_alone : {A B C : Type 0} (a : A) (b : B) (o : Out C) →
    on_out {X = Out C} (on_out {X = Out (A × (B × C))} (on_out {X = Out (B × C)} o stop (λ i d. got (b, i) d)) stop (λ x d. got (a, x) d)) stop (λ v e. got v.1.1 e) ≡ o
third_alone a b (got v e) = refl
third_alone a b (stop k) = refl
