-- What an answer tells beside its number. Document 02, request 2: "name the operand by its place in field order, from 1, surfaces not counted",
-- and "11 and 12 now carry channel and lane of the first offending pair".
use Rattle.std.specs.Prelude.{ℕ, Bool, true, false, cond, ◌&&◌, List, [], ◌∷◌, leb}
use Rattle.refusal.specs.declared.Detail.{Detail}
use Rattle.refusal.specs.declared.Detail.TheVariants as detail

-- the values that each case stands for: the operand's place, or the pair's channel and lane
unfoldable pub values_of : Detail → List ℕ
values_of detail.None = []
values_of (detail.Operand place) = place ∷ []
values_of (detail.Pair channel lane) = channel ∷ lane ∷ []

-- whether anything is told
unfoldable pub is_some : Detail → Bool
is_some detail.None = false
is_some (detail.Operand place) = true
is_some (detail.Pair channel lane) = true

-- "6 becomes 20 to 24", and "25 alone"; the other numbers of an operand's tests, 4, 5 and 7, tell nothing
unfoldable pub names_operand : ℕ → Bool
names_operand number = leb 20 number && leb number 25

-- what the refusal of the operand at a place tells
unfoldable pub operand_detail : ℕ → ℕ → Detail
operand_detail number place = cond (names_operand number) (detail.Operand place) detail.None
