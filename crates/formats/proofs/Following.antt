-- What may stand behind a format: its text may not go on into the next one's.
use mathlib.Core.Path.{◌≡◌}
use mathlib.Core.List.{List, ◌++◌, append_assoc}
use mathlib.Core.Bool.{Bool, true, false, cond}
use Prim.Native.Nat.{ℕ}
use Rattle.formats.specs.Format.{Format, pair, through, blank}
use Rattle.formats.proofs.Tests.{both_left}
use Rattle.formats.proofs.Agree.{ends}
use Rattle.formats.proofs.Law.{free, ends-free}

-- what g prints, with anything that may follow it, does not begin with a character that may not follow f
pub record Follows {A B : Type 0} (f : Format A) (g : A → Format B) (m n : ℕ → Bool) : Type 0 where
  pub apart : (a : A) (b : B) (u : List ℕ) → f.good a ≡ true → (g a).good b ≡ true → ends n u ≡ true → ends m ((g a).print b ++ u) ≡ true

-- two kinds of values for the same texts: `to` and `from` undo each other where they are good
pub record Matches {A B : Type 0} (to : A → B) (from : B → A) (good : B → Bool) (f : Format A) : Type 0 where
  pub into : (a : A) → f.good a ≡ true → (good (to a) ≡ true) × (from (to a) ≡ a)
  pub out : (b : B) → good b ≡ true → (f.good (from b) ≡ true) × (to (from b) ≡ b)

-- no value's text begins with one of these characters, and none is empty
pub record Begins {A : Type 0} (m : ℕ → Bool) (f : Format A) : Type 0 where
  pub apart : (b : A) (u : List ℕ) → f.good b ≡ true → ends m (f.print b ++ u) ≡ true

pub follows-free : {A B : Type 0} {f : Format A} {g : A → Format B} {n : ℕ → Bool} → Follows f g free n
follows-free {g} = record { apart = λ a b u h k z. ends-free ((g a).print b ++ u) }

pub follows-begins : {A B : Type 0} {f : Format A} {g : A → Format B} {m n : ℕ → Bool} → ((a : A) → Begins m (g a)) → Follows f g m n
follows-begins p = record { apart = λ a b u h k z. (p a).apart b u k }

pub begins-pair : {A B : Type 0} {f : Format A} (g : A → Format B) {m : ℕ → Bool} → Begins m f → Begins m (pair f g)
unfolding pair
begins-pair {f} g p =
    record {
      apart = λ b u h.
          rw (append_assoc (f.print b.0) ((g b.0).print b.1) u)
          (p.apart b.0 ((g b.0).print b.1 ++ u) (both_left (f.good b.0) ((g b.0).good b.1) h));
    }

pub begins-through : {A B : Type 0} {to : A → B} {from : B → A} {good : B → Bool} {f : Format A} {m : ℕ → Bool} → Begins m f → Matches to from good f → Begins m (through to from good f)
unfolding through
begins-through {from} p matches = record { apart = λ b u h. p.apart (from b) u (matches.out b h).0 }

pub begins-cond : {A : Type 0} {f g : Format A} {m : ℕ → Bool} (b : Bool) → Begins m f → Begins m g → Begins m (cond b f g)
begins-cond true p q = p
begins-cond false p q = q

pub follows-cond : {A B : Type 0} {f : Format A} {g h : A → Format B} {m n : ℕ → Bool} (t : A → Bool) → Follows f g m n → Follows f h m n → Follows f (λ a. cond (t a) (g a) (h a)) m n
follows-cond {A} {B} {f} {g} {h} {m} {n} t p q = record { apart = λ a b u x y z. told a b u x z (t a) y }
  where
    told : (a : A) (b : B) (u : List ℕ) → f.good a ≡ true → ends n u ≡ true → (c : Bool) → (cond c (g a) (h a)).good b ≡ true → ends m ((cond c (g a) (h a)).print b ++ u) ≡ true
    told a b u x z true y = p.apart a b u x y z
    told a b u x z false y = q.apart a b u x y z

pub follows-blank : {A B : Type 0} {f : Format A} (v : B) (t : B → Bool) {m : ℕ → Bool} → Follows f (λ _. blank v t) m m
unfolding blank
follows-blank v t = record { apart = λ a b u x y z. z }
