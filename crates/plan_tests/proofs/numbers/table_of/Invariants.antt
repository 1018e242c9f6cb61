use Rattle.std.proofs.Common.{◌≡◌, length}
use Rattle.plan_tests.proofs.numbers.table_of.Given as goal

abbrev pub invariant-loop-i : goal.invariant-loop-i
invariant-loop-i g l = 257 ≡ length l.table
