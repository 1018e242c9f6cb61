-- What the code's answers tell: the value with the position past it, or the position at which reading stops.
use Rattle.std.specs.Prelude.{ℕ, List, Result, Ok, Err}
use Rattle.formats.specs.Format.{Out, got, stop, on_out}
use Rattle.formats.specs.Words.{table}
use Rattle.formats.specs.declared.Cursor.{Cursor}
use Rattle.formats.specs.declared.Stop.{Stop}

abbrev pub told : {A : Type 0} → Result (A × Cursor) Stop → Out A
told (Ok x) = got x.0 x.1.at
told (Err e) = stop e.at

-- the same, where a format speaks of another kind of value
abbrev pub told_as : {A B : Type 0} → (A → B) → Result (A × Cursor) Stop → Out B
told_as f (Ok x) = got (f x.0) x.1.at
told_as f (Err e) = stop e.at

-- what was read, with the word of a table that ends it
abbrev pub ended_by : {A : Type 0} → Out A → List ℕ → List ℕ → Out A
ended_by read s end = on_out read stop (λ v e. on_out ((table end).read s e) stop (λ word d. got v d))
