-- Four elements of a list replaced, one after the other.
use Rattle.std.specs.Prelude.{ℕ, ◌+◌, List, get_or, set}

abbrev pub four_set : List ℕ → ℕ → List ℕ → List ℕ
four_set l at four = set (set (set (set l at (get_or four 0 0)) (at + 1) (get_or four 1 0)) (at + 2) (get_or four 2 0)) (at + 3) (get_or four 3 0)
