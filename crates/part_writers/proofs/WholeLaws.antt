-- A whole text at the buffer's start, or nothing of it.
use mathlib.Core.Path.{◌≡◌, refl, sym, ap, ◌∙◌}
use mathlib.Core.Bool.{true, false}
use mathlib.Core.List.{List, ◌++◌}
use Prim.Native.Nat.{ℕ, ◌+◌, ◌≤◌, ◌<◌}
use native.Mathlib.Omega.{arith}
use lib.ListN.{length, drop}
use Rattle.hex_text.specs.Storing.{fits, stored}
use Rattle.hex_text.proofs.StoringLaws.{fits-yes, fits-no, stored-not, placed-is}

pub whole-not : (t l : List ℕ) → length l < length t → (false ≡ fits t 0 l) × (l ≡ stored t 0 l)
whole-not t l h = stored-not t l 0 (fits-no t l 0 (length t) refl (omega arith) (omega arith))

-- the text stands at the start, and what is past it stays
pub whole-text : (t l : List ℕ) → length t ≤ length l → stored t 0 l ≡ t ++ drop (length t) l
unfolding stored
whole-text t l h =
    let n : 0 + length t ≡ length t = omega arith in
    rw (fits-yes t l 0 (length t) refl (omega arith) (omega arith)) (placed-is l 0 t (omega arith) ∙ ap (λ (k : ℕ). t ++ drop k l) n)

-- a copy of the text
pub whole-fits : (t l m : List ℕ) → length t ≤ length l → m ≡ t → (true ≡ fits t 0 l) × (m ++ drop (length t) l ≡ stored t 0 l)
whole-fits t l m h e = (sym (fits-yes t l 0 (length t) refl (omega arith) (omega arith)), rw e (sym (whole-text t l h)))
