-- `shift::residue` meets its contract: a negative number is its lowest bytes less their span, modulo 2^64.
use Rattle.std.proofs.Common.{◌≡◌, ◌+◌, ◌-◌, ◌%◌, ◌^◌, refl, arith, le-leb}
use Rattle.std.proofs.lemmas.Bool.{lt-leb}
use Rattle.shift.proofs.SpanLaws.{told-some, told-small}
use Rattle.shift.proofs.ShiftLaws.{residue-plain, residue-negative}
use Rattle.shift.proofs.residue.Goals.{else-signed-via-then-signed+else-all-low, else-signed-via-else-signed}
use Rattle.shift.proofs.residue.Goals as goal

pub nonzero_rem-low : goal.nonzero_rem-low
nonzero_rem-low c = told-some _ _ c.span_of-all.ensures

pub overflow_mul-low : goal.overflow_mul-low
overflow_mul-low c = let h = told-small _ _ c.span_of-all.ensures c.args.value c.requires in omega arith

pub returns-then-all-low : goal.returns-then-all-low
returns-then-all-low c =
    let low = c.args.value % c.span_of-all.result in
    let small = told-small _ _ c.span_of-all.ensures c.args.value c.requires in
    let some = told-some _ _ c.span_of-all.ensures in
    let back : ((low + (2 ^ 64 - c.span_of-all.result)) % 2 ^ 64 + c.span_of-all.result) % 2 ^ 64 ≡ low = omega arith in
    residue-negative c.args.signed c.args.size c.args.value _ _ c.requires c.span_of-all.ensures refl _ (rw (c.if-signed.true, le-leb _ _ c.if-all-low.true) refl) (omega arith) back

pub returns-else-signed : goal.returns-else-signed
returns-else-signed c =
    residue-plain c.args.signed c.args.size c.args.value _ _ c.requires c.span_of-all.ensures refl
    (elim c.else-signed.branch [
      | else-signed-via-then-signed+else-all-low w ↦ rw (w.if-signed.true, lt-leb _ _ w.if-all-low.false) refl
      | else-signed-via-else-signed w ↦ rw w.if-signed.false refl
    ])
