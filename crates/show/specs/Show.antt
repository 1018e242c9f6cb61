-- Show. Document 01: "given register or memory, a start and a length, the bench hands back that part of one of those two buffers, or refuses
-- with 7 and an empty part exactly when it runs over the end."
use Rattle.std.specs.Prelude.{ℕ, ◌+◌, Bool, cond, List, [], leb, length, take, drop}
use Rattle.show.specs.declared.Place.{Place}
use Rattle.show.specs.declared.Place.TheVariants as place

-- the buffer that is asked for
unfoldable pub shown_of : Place → List ℕ → List ℕ → List ℕ
shown_of place.Registers registers memory = registers
shown_of place.Memory registers memory = memory

-- it does not run over the end
unfoldable pub is_inside : List ℕ → ℕ → ℕ → Bool
is_inside bytes start count = leb (start + count) (length bytes)

unfoldable pub part_of : List ℕ → ℕ → ℕ → List ℕ
part_of bytes start count = cond (is_inside bytes start count) (take count (drop start bytes)) []

unfoldable pub shown : Place → List ℕ → List ℕ → ℕ → ℕ → List ℕ
shown which registers memory start count = part_of (shown_of which registers memory) start count

-- the number: "0: done", "7: .. show past the end"
unfoldable pub shown_number : Place → List ℕ → List ℕ → ℕ → ℕ → ℕ
shown_number which registers memory start count = cond (is_inside (shown_of which registers memory) start count) 0 7
