-- What a frame with the size of a register makes of the case.
use mathlib.Core.Path.{◌≡◌}
use mathlib.Core.List.{List}
use Prim.Native.Nat.{ℕ, ◌≤◌}
use borrow.Author.Tests.{le-ltb}
use Rattle.tally.specs.declared.Case.{Case}
use Rattle.tally.specs.Mirror.Reading.{Contents}
use Rattle.tally.specs.Mirror.Lines.{met_of}
use Rattle.once_frames.specs.Mirror.Once.{register_size_read, once, once_read}

module _ (kind met : ℕ) (bytes : List ℕ) (case : Case) (t : Contents) (m : met ≡ met_of kind case) (none : met ≤ 0) where
  pub register-size-frame : (c : Case) → kind ≡ 11 → c ≡ register_size_read bytes case → once c t ≡ once_read kind bytes (once case t)
  unfolding once_read
  register-size-frame c k e = rw (← m, le-ltb 0 met none, k, e)
