-- `cell_reads::small_number_at` meets its contract.
use Rattle.std.proofs.Common.{◌-◌, ◌<◌, ◌∙◌, arith}
use Rattle.little_endian.specs.LittleEndian.{Bytes}
use Rattle.cells.proofs.NumberLaws.{number-begun, number-turn, number-room}
use Rattle.cell_reads.proofs.small_number_at.Goals as goal

pub loop-k-init : goal.loop-k-init
loop-k-init c = number-begun _ _ _

pub overflow_mul-number : goal.overflow_mul-number
overflow_mul-number c =
    let b : Bytes c.args.bytes.now = λ i. omega (arith, c.type_inv.bytes i) in
    let n : c.args.size - c.loop-k.k < 8 = omega arith in
    omega (arith, number-room c.args.bytes.now _ _ _ b n c.loop-k.invariant)

pub overflow_add-number : goal.overflow_add-number
overflow_add-number c =
    let b : Bytes c.args.bytes.now = λ i. omega (arith, c.type_inv.bytes i) in
    let n : c.args.size - c.loop-k.k < 8 = omega arith in
    omega (arith, number-room c.args.bytes.now _ _ _ b n c.loop-k.invariant)

pub loop-k-preserved : goal.loop-k-preserved
loop-k-preserved c =
    number-turn c.args.bytes.now _ _ _ _ _ c.loop-k-test.true (omega arith) c.loop-k.invariant (c.from-in-loop-k.ensures ∙ rw c.from.ensures at c.byte_past.ensures)
