-- `shift::shift` meets its contract: at most four bytes are shifted, of more the answer is 0.
use Rattle.std.proofs.Common.{◌∙◌, sym, refl, le-leb}
use Rattle.std.proofs.lemmas.Bool.{lt-leb}
use Rattle.shift.specs.Mirror.Total.{total_shift}
use Rattle.shift.proofs.ShiftLaws.{total-is}
use Rattle.shift.proofs.shift.Goals.{else-size-le4-via-then-size-le4+else-destination-le4, else-size-le4-via-else-size-le4}
use Rattle.shift.proofs.shift.Goals as goal

pub returns-then-destination-le4 : goal.returns-then-destination-le4
returns-then-destination-le4 c =
    c.small_shift.ensures ∙ sym (total-is _ _ _ _ _ c.if-size-le4.true c.if-destination-le4.true)

pub returns-else-size-le4 : goal.returns-else-size-le4
unfolding total_shift
returns-else-size-le4 c =
    elim c.else-size-le4.branch [
      | else-size-le4-via-then-size-le4+else-destination-le4 w ↦ rw (le-leb _ _ w.if-size-le4.true, lt-leb _ _ w.if-destination-le4.false) refl
      | else-size-le4-via-else-size-le4 w ↦ rw (lt-leb _ _ w.if-size-le4.false) refl
    ]
