-- The numbers of a send's message, in the order of its text.
use Rattle.std.specs.Prelude.{ℕ}
use Rattle.field_groups.specs.declared.Message.{Message}

abbrev pub numbers_of : Message → ℕ × (ℕ × ℕ)
numbers_of m = (m.extended, (m.num_src, m.num_dst))
