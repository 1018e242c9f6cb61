-- A part of a block up to the next 0x0a: feeding it is pushing its characters.
use mathlib.Core.Path.{◌≡◌, refl}
use mathlib.Core.Bool.{Bool, true, false}
use mathlib.Core.List.{List, [], ◌∷◌}
use Prim.Native.Nat.{ℕ}
use lib.ListN.{take, drop}
use lib.Dec.{eqb, ltb}
use Rattle.line_blocks.specs.Mirror.Rows.{pushed, all_pushed, line_length}
use Rattle.feeding.specs.Mirror.Feeding.{Machine, byte_fed, fed}

-- the machine with the characters of a list up to its first 0x0a
abbrev line_pushed : List ℕ → Machine → Machine
line_pushed bs m = record { row = all_pushed (take (line_length bs) bs) m.row; reading = m.reading }

pushed-end : (b : ℕ) (bs : List ℕ) (m : Machine) → eqb b 10 ≡ true → fed (b ∷ bs) m ≡ fed (drop (line_length (b ∷ bs)) (b ∷ bs)) (line_pushed (b ∷ bs) m)
unfolding line_length all_pushed
pushed-end b bs m e = rw e

pushed-on : (b : ℕ) (bs : List ℕ) (m : Machine) → ltb 0 m.reading.case.bad ≡ false → eqb b 10 ≡ false →
    fed bs (record { row = pushed b m.row; reading = m.reading }) ≡ fed (drop (line_length bs) bs) (line_pushed bs (record { row = pushed b m.row; reading = m.reading })) →
    fed (b ∷ bs) m ≡ fed (drop (line_length (b ∷ bs)) (b ∷ bs)) (line_pushed (b ∷ bs) m)
unfolding fed byte_fed line_length all_pushed
pushed-on b bs m g e k = rw (g, e) k

pushed-turn : (b : ℕ) (bs : List ℕ) (m : Machine) → ltb 0 m.reading.case.bad ≡ false →
    fed bs (record { row = pushed b m.row; reading = m.reading }) ≡ fed (drop (line_length bs) bs) (line_pushed bs (record { row = pushed b m.row; reading = m.reading })) →
    (q : Bool) → eqb b 10 ≡ q → fed (b ∷ bs) m ≡ fed (drop (line_length (b ∷ bs)) (b ∷ bs)) (line_pushed (b ∷ bs) m)
pushed-turn b bs m g k true e = pushed-end b bs m e
pushed-turn b bs m g k false e = pushed-on b bs m g e k

pub line-pushed : (bs : List ℕ) (m : Machine) → ltb 0 m.reading.case.bad ≡ false → fed bs m ≡ fed (drop (line_length bs) bs) (line_pushed bs m)
unfolding line_length all_pushed
line-pushed [] m g = refl
line-pushed (b ∷ bs) m g = pushed-turn b bs m g (line-pushed bs (record { row = pushed b m.row; reading = m.reading }) g) (eqb b 10) refl
