use Rattle.std.proofs.Common.{◌≡◌, ◌-◌, false, ◌||◌, get_or}
use Rattle.cells.specs.Over.{among_from, some}
use Rattle.staging.specs.Mirror.Room.{either_staged}
use Rattle.scatter_pairs.specs.Mirror.Search.{some_tainted}
use Rattle.scatter_pairs.proofs.some_tainted.Given as goal

-- what was found and what is left to search make the whole
abbrev pub invariant-loop-lane : goal.invariant-loop-lane
invariant-loop-lane l = (l.found || some (either_staged l.room.taint.now l.layout) (among_from (λ k. get_or l.targets.on.now k false) l.lane (l.layout.lanes - l.lane))) ≡ some_tainted l.room.taint.now l.layout l.targets.on.now
