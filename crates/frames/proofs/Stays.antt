-- After the first bad line nothing changes.
use mathlib.Core.Path.{◌≡◌}
use mathlib.Core.List.{List}
use Prim.Native.Nat.{ℕ, ◌<◌}
use borrow.Author.Tests.{lt-ltb}
use Rattle.tally.specs.declared.Case.{Case}
use Rattle.tally.specs.Mirror.Reading.{Reading}
use Rattle.tally.specs.Mirror.Lines.{long_line}
use Rattle.frames.specs.Mirror.Frames.{line_read}

pub line_stays : (line : List ℕ) (r : Reading) → 0 < r.case.bad → line_read line r ≡ r
unfolding line_read
line_stays line r h = rw (lt-ltb 0 r.case.bad h)

pub long-stays : (c : Case) → 0 < c.bad → long_line c ≡ c
unfolding long_line
long-stays c h = rw (lt-ltb 0 c.bad h)
