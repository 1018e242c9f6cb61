-- `shift::small_shift` meets its contract: arithmetic on residues gives the exact shift.
use Rattle.shift.proofs.SpanLaws.{told-some}
use Rattle.shift.proofs.ShiftLaws.{product-shifted}
use Rattle.shift.proofs.small_shift.Goals as goal

pub nonzero_rem-result : goal.nonzero_rem-result
nonzero_rem-result c = told-some _ _ c.span_of.ensures

pub returns : goal.returns
returns c =
    product-shifted c.args.signed c.args.size c.args.value c.args.count c.args.destination _ _ c.requires.1 c.residue.ensures c.span_of.ensures
