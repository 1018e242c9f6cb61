-- The bytes of the surface buffer from start on that are one surface.
use Rattle.std.specs.Prelude.{ℕ}

pub record Part : Type 0 where
  pub start : ℕ
  pub length : ℕ
