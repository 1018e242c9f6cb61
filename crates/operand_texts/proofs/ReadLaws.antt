-- What is read behind a word that carries no value is handed on as it is.
use mathlib.Core.Path.{◌≡◌, refl}
use Rattle.formats.specs.Format.{Out, got, stop, on_out}

pub second_alone : {A B : Type 0} (a : A) (o : Out B) → on_out {X = Out B} (on_out {X = Out (A × B)} o stop (λ b d. got (a, b) d)) stop (λ v e. got v.1 e) ≡ o
second_alone a (got v e) = refl
second_alone a (stop k) = refl
