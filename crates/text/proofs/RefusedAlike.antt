-- Printing refuses what the encoder refuses, by the same number, and then a line for which there is no room. Document 02, request 1: "printing refuses
-- fields as the encoder does"; "room is refused as 15; a refusal leaves the lent buffer as it was".
use mathlib.Core.Path.{◌≡◌, refl}
use mathlib.Core.Logic.{◌≢◌}
use mathlib.Core.List.{List}
use mathlib.Core.Bool.{Bool, true, false, cond}
use Prim.Native.Nat.{ℕ, ◌≤◌, ◌<◌}
use native.Mathlib.Omega.{arith}
use lib.ListN.{length}
use lib.Dec.{ltb, eqb}
use borrow.Author.Tests.{lt-ltb, le-ltb}
use Rattle.reader.specs.Reply.{refused, done, number_of}
use Rattle.decoder.specs.declared.Instruction.{Instruction}
use Rattle.decoder.specs.Format.{instruction_bytes, instruction_refusal}
use Rattle.encoder.specs.Encoding.{encoded_in}
use Rattle.lines.specs.LineOf.{line_of}
use Rattle.text.specs.Printing.{printed_in, printed_into}

-- ---- where both have room

same_number : (b : Bool) (x y r : ℕ) → number_of (cond b (done x) (refused r)) ≡ number_of (cond b (done y) (refused r))
unfolding number_of
same_number true x y r = refl
same_number false x y r = refl

pub refused-alike : (i : Instruction) (room bytes : ℕ) → length (line_of i) ≤ room → length (instruction_bytes i) ≤ bytes → number_of (printed_in room i) ≡ number_of (encoded_in bytes i)
unfolding printed_in encoded_in
refused-alike i room bytes h k =
    rw (le-ltb room (length (line_of i)) h, le-ltb bytes (length (instruction_bytes i)) k)
    (same_number (eqb (instruction_refusal i) 0) (length (line_of i)) (length (instruction_bytes i)) (instruction_refusal i))

-- ---- where the line has none: the fields are judged first

fields-first : (r y : ℕ) (b : Bool) → eqb r 0 ≡ b → number_of {A = ℕ} (cond b (refused 15) (refused r)) ≡ cond (eqb (number_of (cond b (done y) (refused r))) 0) 15 (number_of (cond b (done y) (refused r)))
unfolding number_of
fields-first r y true e = refl
fields-first r y false e = rw e

pub short-alike : (i : Instruction) (room bytes : ℕ) → room < length (line_of i) → length (instruction_bytes i) ≤ bytes → number_of (printed_in room i) ≡ cond (eqb (number_of (encoded_in bytes i)) 0) 15 (number_of (encoded_in bytes i))
unfolding printed_in encoded_in
short-alike i room bytes h k =
    rw (lt-ltb room (length (line_of i)) h, le-ltb bytes (length (instruction_bytes i)) k)
    (fields-first (instruction_refusal i) (length (instruction_bytes i)) (eqb (instruction_refusal i) 0) refl)

-- ---- a refusal other than 15 is that of a field: it hangs on no buffer, and both give it

module _ (n : ℕ) (other : n ≢ 15) where
  of_field : (b d e : Bool) (x y r : ℕ) → cond b (cond d (refused 15) (done x)) (refused r) ≡ refused n → cond b (cond e (refused 15) (done y)) (refused r) ≡ refused n
  of_field true true e x y r p = absurd (other (cc))
  of_field true false e x y r p = absurd (let z : ◌≡◌ {A = ℕ} 0 1 = cc in omega arith)
  of_field false d e x y r p = p

  module _ (i : Instruction) (room bytes : ℕ) where
    pub encoded-then-printed : encoded_in bytes i ≡ refused n → printed_in room i ≡ refused n
    unfolding printed_in encoded_in
    encoded-then-printed = of_field (eqb (instruction_refusal i) 0) (ltb bytes (length (instruction_bytes i))) (ltb room (length (line_of i))) (length (instruction_bytes i)) (length (line_of i)) (instruction_refusal i)

    pub printed-then-encoded : printed_in room i ≡ refused n → encoded_in bytes i ≡ refused n
    unfolding printed_in encoded_in
    printed-then-encoded = of_field (eqb (instruction_refusal i) 0) (ltb room (length (line_of i))) (ltb bytes (length (instruction_bytes i))) (length (line_of i)) (length (instruction_bytes i)) (instruction_refusal i)

-- ---- a refusal leaves the buffer as it was

pub refused-leaves : (i : Instruction) (l : List ℕ) (n : ℕ) → printed_in (length l) i ≡ refused n → printed_into l i ≡ l
unfolding printed_into
refused-leaves i l n e = rw e
