-- `encoder::encode` meets its contract: the draft says which of the three cases it is.
use Rattle.std.proofs.Common.{arith}
use Rattle.encoder.proofs.EncodeLaws.{in-room, too_short, written}
use Rattle.encoder.proofs.encode.Goals as goal

pub returns-then-buffer-count : goal.returns-then-buffer-count
returns-then-buffer-count c = let m = too_short _ _ c.in_ok-draft.ensures _ (omega (arith, c.if-buffer-count.true)) in record { answer = m.0; bytes = m.1 }

pub shared_ref_as_front-copy_from_slice : goal.shared_ref_as_front-copy_from_slice
shared_ref_as_front-copy_from_slice c = omega (arith, in-room _ _ c.in_ok-draft.ensures)

pub returns : goal.returns
returns c =
    let m = written _ _ c.in_ok-draft.ensures _ _ c.if-buffer-count.false (rw c.copy_from_slice.ensures.after) in
    record { answer = m.0; bytes = m.1 }
