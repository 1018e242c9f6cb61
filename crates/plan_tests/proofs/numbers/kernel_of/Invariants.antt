use Rattle.std.proofs.Common.{◌≡◌, length}
use Rattle.plan_tests.proofs.numbers.kernel_of.Given as goal

abbrev pub invariant-loop-i : goal.invariant-loop-i
invariant-loop-i l = 64 ≡ length l.kernel
