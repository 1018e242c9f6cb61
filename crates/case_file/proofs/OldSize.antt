-- "absent means 32" (document 02, request 5): in a case file without a frame 0b a register has 32 bytes, so that its run is
-- the one of before (`run-32` of the crate `earlier`).
use mathlib.Core.Path.{◌≡◌}
use mathlib.Core.List.{List, []}
use Prim.Native.Nat.{ℕ}
use Rattle.case_file.specs.Frames.{of_kind}
use Rattle.case_file.specs.Case.{register_size_of, case_setup}

pub old-size : (frames : List (List ℕ)) → of_kind 0x0b frames ≡ [] → (case_setup frames).constants.register_size ≡ 32
unfolding case_setup register_size_of
old-size frames none = rw none
