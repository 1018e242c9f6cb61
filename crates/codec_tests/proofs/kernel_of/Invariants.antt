-- The array keeps its length.
use Rattle.std.proofs.Common.{◌≡◌, length}
use Rattle.codec_tests.proofs.kernel_of.Given as goal

abbrev pub invariant-loop-i : goal.invariant-loop-i
invariant-loop-i l = length l.kernel ≡ 64
