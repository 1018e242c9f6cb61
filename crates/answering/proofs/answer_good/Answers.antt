-- `answering::answer_good` meets its contract: each buffer is cut to what was read.
use Rattle.std.proofs.Common.{◌≡◌, length, rules}
use Rattle.answering.proofs.CutLaws.{state-cut}
use Rattle.answering.proofs.WrittenLaws.{good-written}
use Rattle.answering.proofs.answer_good.Goals as goal

pub returns : goal.returns
returns c =
    let s = c.args.storage in
    let registers : length s.registers ≡ 4096 = search rules in
    let memory : length s.memory ≡ 4096 = search rules in
    let register_taint : length s.register_taint ≡ 4096 = search rules in
    let memory_taint : length s.memory_taint ≡ 4096 = search rules in
    good-written _ _ _ _ c.args.case _ _ _ _ _ _ _ _ _ _
    (state-cut c.args.case s.registers s.memory c.args.kernel.now s.register_taint s.surface_taint s.memory_taint c.args.tables.surface_bytes.now _ _ _ _ _ _ _ _ _ _ _
    registers memory register_taint memory_taint
    (cc (c.min-file.ensures, c.length.ensures)) (cc (c.min-window.ensures, c.length-2.ensures))
    (cc (c.min-file_taint.ensures, c.taint_length.ensures)) (cc (c.min-window_taint.ensures, c.taint_length-2.ensures))
    c.taint_or_zeros-register_taint.ensures c.taint_or_zeros-memory_taint.ensures c.taint_or_zeros-surface_taint.ensures
    c.length-3.ensures c.taint_length-3.ensures c.first.ensures c.first-2.ensures)
    c.run_and_write.ensures
