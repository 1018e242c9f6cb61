-- What a finished draft says of its instruction: refused, too long for the buffer, or encoded.
use mathlib.Core.Path.{◌≡◌, refl}
use mathlib.Core.List.{List, ◌++◌}
use mathlib.Core.Bool.{true, false}
use Prim.Native.Nat.{ℕ, ◌≤◌, ◌<◌}
use native.Mathlib.Omega.{arith}
use lib.ListN.{length, take, drop}
use lib.Dec.{ltb, eqb}
use borrow.Author.Tests.{lt-ltb, le-ltb, eq-eqb, ne_eqb}
use Rattle.reader.specs.Reply.{Reply, refused, done}
use Rattle.decoder.specs.declared.Instruction.{Instruction}
use Rattle.decoder.specs.Format.{instruction_fields, instruction_bytes, instruction_refusal}
use Rattle.decoder.proofs.FormatLaws.{instruction-bytes, instruction-refusal, instruction-at-most}
use Rattle.encoder.specs.declared.Draft.{Draft}
use Rattle.encoder.specs.Mirror.Draft.{empty_draft, with_fields}
use Rattle.encoder.specs.Encoding.{encoded_in, encoded_into}
use Rattle.encoder.proofs.DraftLaws.{Drafts, drafted-drafts}

-- the answer `r` and the buffer `m` that a call leaves of the buffer `l`
abbrev pub Meets : Instruction → List ℕ → Reply ℕ → List ℕ → Type 0
Meets i l r m = (r ≡ encoded_in (length l) i) × (m ≡ encoded_into l i)

whole : (i : Instruction) (a : Reply Draft) → a ≡ with_fields (instruction_fields i) empty_draft → Drafts a (instruction_refusal i) (instruction_bytes i)
whole i a e =
    let fits : length (instruction_bytes i) ≤ 64 = omega (arith, instruction-at-most i) in
    rw (e, instruction-bytes i, instruction-refusal i) (drafted-drafts (instruction_fields i) (rw instruction-bytes at fits))

module _ (i : Instruction) where
  pub refused_in : (room n : ℕ) → refused n ≡ with_fields (instruction_fields i) empty_draft → encoded_in room i ≡ refused n
  unfolding encoded_in
  refused_in room n e =
      let d = whole i (refused n) e in
      let bad : eqb (instruction_refusal i) 0 ≡ false = ne_eqb (instruction_refusal i) 0 d.1 in
      rw (bad, d.0)

  pub refused_into : (l : List ℕ) (n : ℕ) → refused n ≡ with_fields (instruction_fields i) empty_draft → encoded_into l i ≡ l
  unfolding encoded_into
  refused_into l n e = rw (refused_in (length l) n e)

  module _ (d : Draft) (e : done d ≡ with_fields (instruction_fields i) empty_draft) where
    pub in-room : d.length < length d.bytes
    in-room = let h = (whole i (done d) e).1 in omega (arith, h.count, h.room, instruction-at-most i)

    pub too_short : (l : List ℕ) → length l < d.length → Meets i l (refused 15) l
    unfolding encoded_in encoded_into
    too_short l h =
        let w = whole i (done d) e in
        let short : ltb (length l) (length (instruction_bytes i)) ≡ true = lt-ltb (length l) (length (instruction_bytes i)) (omega (arith, w.1.count)) in
        rw (eq-eqb (instruction_refusal i) 0 w.0, short) (refl, refl)

    pub written : (l m : List ℕ) → d.length ≤ length l → m ≡ take d.length d.bytes ++ drop d.length l → Meets i l (done d.length) m
    unfolding encoded_in encoded_into
    written l m h k =
        let w = whole i (done d) e in
        let long : ltb (length l) (length (instruction_bytes i)) ≡ false = le-ltb (length l) (length (instruction_bytes i)) (omega (arith, w.1.count)) in
        rw (eq-eqb (instruction_refusal i) 0 w.0, long, k, w.1.count, w.1.bytes) (refl, refl)
