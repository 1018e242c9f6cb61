-- A text written into a page.
use Rattle.std.specs.Prelude.{ℕ, List, ◌≡◌}
use Rattle.format_writers.specs.declared.Page.{Page}
use Rattle.format_writers.specs.Writing.{wrote, written}

-- the same buffer, with this text at the place and after, and the place past it
pub record Writes (old new : Page) (text : List ℕ) : Type 0 where
  pub out : new.out.ghost_name ≡ old.out.ghost_name
  pub content : wrote new.at new.out.now ≡ written old.out.now old.at text
