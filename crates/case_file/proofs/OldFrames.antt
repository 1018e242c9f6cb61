-- "an old four-byte frame means 32": where every 03 of a case file has four bytes, every predicate has 32 elements. So its run is the one of before
-- predicates had counts (`run-uncounted` of `earlier`).
use mathlib.Core.Path.{◌≡◌, refl}
use mathlib.Core.List.{List, [], ◌∷◌, map}
use Prim.Native.Nat.{ℕ}
use lib.ListN.{length, replicate}
use Rattle.case_file.specs.Frames.{of_kind}
use Rattle.case_file.specs.OldFrames.{AllFour}
use Rattle.case_file.specs.Case.{dword_of, predicate_count_of, case_setup}

old-count : (c : List ℕ) → length c ≡ 4 → predicate_count_of c ≡ 32
unfolding predicate_count_of
old-count c four = rw four

old-counts : (cs : List (List ℕ)) → AllFour cs → map predicate_count_of cs ≡ replicate (length (map dword_of cs)) 32
old-counts [] four = refl
old-counts (c ∷ cs) four = rw (old-count c four.0, old-counts cs four.1) refl

pub old-frames : (frames : List (List ℕ)) → AllFour (of_kind 0x03 frames)
    → (case_setup frames).tables.predicates.counts ≡ replicate (length (case_setup frames).tables.predicates.bits) 32
unfolding case_setup
old-frames frames four = old-counts (of_kind 0x03 frames) four
