-- An empty line is as bad as one that is too long.
use mathlib.Core.Path.{◌≡◌, refl}
use mathlib.Core.Bool.{Bool, true, false, cond}
use mathlib.Core.List.{[]}
use lib.Dec.{ltb}
use Rattle.hex_text.proofs.ByteLaws.{empty-not-hex}
use Rattle.tally.specs.Mirror.Reading.{Reading, only}
use Rattle.tally.specs.Mirror.Lines.{bad_line, long_line}
use Rattle.frames.specs.Mirror.Frames.{line_read}

bad-either : (bad : Bool) (r : Reading) → cond bad r (only (bad_line r.case) r) ≡ only (cond bad r.case (bad_line r.case)) r
bad-either true r = refl
bad-either false r = refl

pub empty-is-long : (r : Reading) → line_read [] r ≡ only (long_line r.case) r
unfolding line_read long_line
empty-is-long r = rw empty-not-hex (bad-either (ltb 0 r.case.bad) r)
