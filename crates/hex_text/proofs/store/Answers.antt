-- The tests are `fits`, without a sum that may be too large.
use Rattle.hex_text.proofs.StoringLaws.{fits-no, fits-never, stored-all, stored-not}
use Rattle.hex_text.proofs.store.Goals as goal
use Rattle.hex_text.proofs.store.Goals.{then-at-buffer-via-then-at-buffer, then-at-buffer-via-else-at-buffer+then-content_length-buffer}

pub returns-then-at-buffer : goal.returns-then-at-buffer
returns-then-at-buffer c =
    elim c.then-at-buffer.branch [
      | then-at-buffer-via-then-at-buffer w ↦ stored-not _ _ _ (fits-never _ _ _ w.if-at-buffer.true)
      | then-at-buffer-via-else-at-buffer+then-content_length-buffer w ↦ stored-not _ _ _ (fits-no _ _ _ _ w.content_length.ensures w.if-at-buffer.false w.if-content_length-buffer.true)
    ]

pub returns : goal.returns
returns c = stored-all _ _ _ _ _ c.content_length.ensures c.if-at-buffer.false c.if-content_length-buffer.false c.place.ensures
