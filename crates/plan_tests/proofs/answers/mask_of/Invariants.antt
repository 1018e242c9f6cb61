use Rattle.std.proofs.Common.{◌-◌, ◌<◌}
use Rattle.plan_tests.proofs.answers.mask_of.Given as goal

abbrev pub invariant-loop-lane : goal.invariant-loop-lane
invariant-loop-lane l = l.mask < 4294967296
