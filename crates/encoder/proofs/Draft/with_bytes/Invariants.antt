use Rattle.std.proofs.Common.{◌≡◌, take}
use Rattle.encoder.specs.Mirror.Draft.{with_bytes}
use Rattle.encoder.proofs.Draft.with_bytes.Given as goal

-- the bytes so far
abbrev pub invariant-loop-v : goal.invariant-loop-v
invariant-loop-v l = l.draft ≡ with_bytes (take l.v-index l.bytes) l.fn.self
