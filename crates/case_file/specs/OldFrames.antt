-- Frames of predicates as they were before counts: "an old four-byte frame" (document 02, request 3).
use Rattle.std.specs.Prelude.{◌≡◌, List, [], ◌∷◌, ℕ, length}

-- contents of four bytes each
abbrev pub AllFour : List (List ℕ) → Type 0
AllFour [] = Unit
AllFour (c ∷ cs) = (length c ≡ 4) × AllFour cs
