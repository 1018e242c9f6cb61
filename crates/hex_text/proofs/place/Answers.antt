-- Each turn places one byte more of the line's.
use Rattle.std.proofs.Common.{◌≡◌, sym, ◌∙◌, ◌+◌, ◌-◌, ◌≤◌, ◌<◌, arith, length}
use Rattle.hex_text.specs.Bytes.{hex_bytes}
use Rattle.hex_text.proofs.ByteLaws.{length-hex}
use Rattle.hex_text.proofs.StoringLaws.{placed-turn, placed-over}
use Rattle.hex_text.proofs.place.Goals as goal

pub bounds-buffer-at : goal.bounds-buffer-at
bounds-buffer-at c = omega (arith, length-hex c.args.line.now)

pub loop-i-preserved : goal.loop-i-preserved
loop-i-preserved c =
    let h : c.loop-i.i < length (hex_bytes c.args.line.now) = omega (arith, length-hex c.args.line.now) in
    let e : c.args.at + (c.loop-i.i + 1 - c.args.from) ≡ c.args.at + (c.loop-i.i - c.args.from) + 1 = omega arith in
    rw e (placed-turn _ _ c.loop-i.i _ _ h c.byte.ensures) ∙ c.loop-i.invariant

pub returns : goal.returns
returns c =
    let over : length (hex_bytes c.args.line.now) ≤ c.loop-i.i = omega (arith, length-hex c.args.line.now) in
    sym (placed-over _ _ c.loop-i.i _ over) ∙ c.loop-i.invariant
