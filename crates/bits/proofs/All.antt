-- What a row of tests says when all of them hold: each of them does.
use mathlib.Core.Path.{◌≡◌, refl}
use mathlib.Core.Bool.{Bool, true, false, ◌&&◌, false≢true}

pub left : (a b : Bool) → (a && b) ≡ true → a ≡ true
left true b h = refl
left false b h = h

pub right : (a b : Bool) → (a && b) ≡ true → b ≡ true
right true b h = h
right false b h = absurd (false≢true h)

pub record All3 (a b c : Bool) : Type 0 where
  pub first : a ≡ true
  pub second : b ≡ true
  pub third : c ≡ true

pub all3 : (a b c : Bool) → (a && b && c) ≡ true → All3 a b c
all3 a b c h = let g = left (a && b) c h in record { first = left a b g; second = right a b g; third = right (a && b) c h }

pub record All4 (a b c d : Bool) : Type 0 where
  pub first : a ≡ true
  pub second : b ≡ true
  pub third : c ≡ true
  pub fourth : d ≡ true

pub all4 : (a b c d : Bool) → (a && b && c && d) ≡ true → All4 a b c d
all4 a b c d h =
    let t = all3 a b c (left (a && b && c) d h) in
    record { first = t.first; second = t.second; third = t.third; fourth = right (a && b && c) d h }
