-- What the end of a line, and of the file, makes of the machine.
use mathlib.Core.Path.{◌≡◌, refl, ap, ◌∙◌}
use mathlib.Core.Bool.{Bool, true, false, cond}
use mathlib.Core.List.{List, []}
use Prim.Native.Nat.{ℕ}
use lib.ListN.{take}
use Rattle.tally.specs.Mirror.Reading.{Reading, only}
use Rattle.tally.specs.Mirror.Lines.{long_line}
use Rattle.frames.specs.Mirror.Frames.{line_read}
use Rattle.frames.proofs.FrameLaws.{empty-is-long}
use Rattle.line_blocks.specs.declared.Begun.{Begun}
use Rattle.line_blocks.specs.Mirror.Rows.{row, is_begun}
use Rattle.feeding.specs.Mirror.Feeding.{Machine, ended, finished}

-- what is read of a line, too long or not
read-either : (long : Bool) (line : List ℕ) (r : Reading) → line_read (cond long [] line) r ≡ cond long (only (long_line r.case) r) (line_read line r)
read-either true line r = empty-is-long r
read-either false line r = refl

-- the machine after the line begun was read
abbrev pub line_over : Machine → Reading → Machine
line_over m r = record { row = row m.row.line 0 false; reading = r }

pub line-ended : (m : Machine) (r : Reading) (characters : List ℕ) → characters ≡ cond m.row.long [] (take m.row.used m.row.line) →
    r ≡ line_read characters m.reading → line_over m r ≡ ended m
unfolding ended
line-ended m r characters h e =
    ap (line_over m)
    (e ∙ (ap (λ (l : List ℕ). line_read l m.reading) h ∙ read-either m.row.long (take m.row.used m.row.line) m.reading))

-- nothing is begun of the next line
pub over_nothing : (m : Machine) (r : Reading) (b : Begun) → b ≡ record { used = 0; long = false } → record { row = row m.row.line b.used b.long; reading = r } ≡ line_over m r
over_nothing m r b e = rw e

-- whether a line is begun, as the function asks it
pub last_finished : (begun : Bool) (m : Machine) (r : Reading) (b : Begun) (characters : List ℕ) → begun ≡ true → begun ≡ is_begun m.row.used m.row.long →
    characters ≡ cond m.row.long [] (take m.row.used m.row.line) → r ≡ line_read characters m.reading → b ≡ record { used = 0; long = false } →
    record { row = row m.row.line b.used b.long; reading = r } ≡ finished m
unfolding finished
last_finished begun m r b characters q h e k n = rw (← h, q) (over_nothing m r b n ∙ line-ended m r characters e k)

pub none_finished : (begun : Bool) (m : Machine) → begun ≡ false → begun ≡ is_begun m.row.used m.row.long → m ≡ finished m
unfolding finished
none_finished begun m q h = rw (← h, q)
