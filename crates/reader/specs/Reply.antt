-- What a function that may refuse gives back: document 01's number, and the values where nothing is refused.
-- Document 01: "For an answer that is an enum, a definition gives this paper's number and values for each of its cases."
use Rattle.std.specs.Prelude.{ℕ, Result, Ok, Err}
use Rattle.refusal.specs.declared.Refusal.{Refusal}
use Rattle.refusal.specs.Numbers as refusal
use Rattle.reader.specs.declared.Cursor.{Cursor}

pub data Reply (A : Type 0) : Type 0 where
  refused : ℕ → Reply A
  done : A → Reply A

-- what follows a refusal, and what follows the values
abbrev pub on_reply {ℓ} : {A : Type 0} {X : Type ℓ} → Reply A → (ℕ → X) → (A → X) → X
on_reply (refused n) f g = f n
on_reply (done v) f g = g v

-- the number given back: "0: done"
unfoldable pub number_of : {A : Type 0} → Reply A → ℕ
number_of a = on_reply a (λ n. n) (λ v. 0)

-- what reading gives: a value, and the position behind it
pub record Read (A : Type 0) : Type 0 where
  pub value : A
  pub next : ℕ

abbrev pub got : {A : Type 0} → A → ℕ → Reply (Read A)
got value next = done (record { value = value; next = next })

-- what a reader of the code answers: the value with the cursor behind it, or why there is none
abbrev pub reply : {A : Type 0} → Result (A × Cursor) Refusal → Reply (Read A)
reply (Ok r) = got r.0 r.1.at
reply (Err e) = refused (refusal.number_of e)

-- what any other function of the code answers that may refuse
abbrev pub outcome : {A : Type 0} → Result A Refusal → Reply A
outcome (Ok v) = done v
outcome (Err e) = refused (refusal.number_of e)

-- what follows the values; a refusal stays
abbrev pub and_then : {A B : Type 0} → Reply A → (A → Reply B) → Reply B
and_then (refused n) f = refused n
and_then (done v) f = f v
