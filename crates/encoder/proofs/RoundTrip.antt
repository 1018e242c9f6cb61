-- Decoding and encoding undo each other, for all four instructions.
use mathlib.Core.Path.{◌≡◌, refl, sym, ap, ◌∙◌, subst}
use mathlib.Core.List.{List, [], ◌++◌, append-nil}
use mathlib.Core.Bool.{Bool, true, false, cond, true≢false}
use mathlib.Core.Logic.{◌⊎◌, inl, inr, ⊎_elim}
use Prim.Native.Nat.{ℕ, ◌+◌, ◌-◌, ◌≤◌}
use native.Mathlib.Omega.{arith}
use lib.ListN.{length, take, drop, take-append-drop}
use lib.Seq.{take-append_seam}
use lib.Dec.{ltb, eqb}
use borrow.Author.Tests.{le-ltb, ltb-false, eqb-true, eq-eqb}
use Rattle.little_endian.specs.LittleEndian.{Bytes}
use Rattle.little_endian.proofs.Parts.{bytes-before, bytes_drop}
use Rattle.reader.specs.Reply.{refused, done, got}
use Rattle.fields.specs.Layout.{layout_bytes}
use Rattle.fields.proofs.FieldLaws.{LayoutFits, layout-fits, fits-layout}
use Rattle.decoder.specs.declared.Instruction.{Instruction}
use Rattle.decoder.specs.Decoding.{instruction_at}
use Rattle.decoder.specs.Format.{instruction_fields, instruction_bytes, instruction_refusal}
use Rattle.decoder.proofs.FormatLaws.{instruction-bytes, instruction-refusal, instruction-refusals}
use Rattle.decoder.proofs.DecodeEncode.{decode-encode}
use Rattle.decoder.proofs.EncodeDecode.{encode-decode}
use Rattle.encoder.specs.Encoding.{encoded_in, encoded_into}

-- ---- what an answer tells

-- a good instruction is encoded where there is room
good-encodes : (i : Instruction) (room : ℕ) → instruction_refusal i ≡ 0 → length (instruction_bytes i) ≤ room → encoded_in room i ≡ done (length (instruction_bytes i))
unfolding encoded_in
good-encodes i room g h = rw (eq-eqb (instruction_refusal i) 0 g, le-ltb room (length (instruction_bytes i)) h)

good-into : (i : Instruction) (l : List ℕ) → instruction_refusal i ≡ 0 → length (instruction_bytes i) ≤ length l → encoded_into l i ≡ instruction_bytes i ++ drop (length (instruction_bytes i)) l
unfolding encoded_into
good-into i l g h = rw (good-encodes i (length l) g h)

record Good (i : Instruction) (room n : ℕ) : Type 0 where
  good : instruction_refusal i ≡ 0
  count : n ≡ length (instruction_bytes i)
  fits : length (instruction_bytes i) ≤ room

-- what is encoded is good, and has room
wrote-good : (i : Instruction) (room n : ℕ) → encoded_in room i ≡ done n → Good i room n
unfolding encoded_in
wrote-good i room n e = told (eqb (instruction_refusal i) 0) (ltb room (length (instruction_bytes i))) refl refl e
  where
    told : (b d : Bool) → eqb (instruction_refusal i) 0 ≡ b → ltb room (length (instruction_bytes i)) ≡ d → cond b (cond d (refused 15) (done (length (instruction_bytes i)))) (refused (instruction_refusal i)) ≡ done n → Good i room n
    told true true p q w = absurd (let z : ◌≡◌ {A = ℕ} 0 1 = cc in omega arith)
    told true false p q w = record { good = eqb-true (instruction_refusal i) 0 p; count = cc; fits = ltb-false room (length (instruction_bytes i)) q }
    told false d p q w = absurd (let z : ◌≡◌ {A = ℕ} 0 1 = cc in omega arith)

-- ---- whatever decodes, encodes to exactly the bytes that it was decoded from, into every buffer that has room for them

pub decoded-encodes : (s : List ℕ) (at : ℕ) (i : Instruction) (next : ℕ) → Bytes s → instruction_at s at ≡ got i next → (l : List ℕ) → next - at ≤ length l → (encoded_in (length l) i ≡ done (next - at)) × (encoded_into l i ≡ take (next - at) (drop at s) ++ drop (next - at) l)
decoded-encodes s at i next b e l h =
    let bs = instruction_bytes i in
    let p = decode-encode s at i next b e in
    let g : instruction_refusal i ≡ 0 = instruction-refusal i ∙ p.good in
    let n : next - at ≡ length bs = omega (arith, p.passed.end, ap length (instruction-bytes i)) in
    let stands : drop at s ≡ bs ++ drop next s = p.passed.bytes ∙ ap (λ (x : List ℕ). x ++ drop next s) (sym (instruction-bytes i)) in
    let own : take (length bs) (drop at s) ≡ bs = ap (λ (x : List ℕ). take (length bs) x) stands ∙ take-append_seam bs (drop next s) in
    (rw n (good-encodes i (length l) g (omega arith)), rw (n, own) (good-into i l g (omega arith)))

-- ---- whatever encodes decodes, wherever the encoding stands, to the same instruction, the next position at its end

starts_with : (i : Instruction) (l : List ℕ) (n : ℕ) → Good i (length l) n → take n (encoded_into l i) ≡ instruction_bytes i
starts_with i l n g =
    ap (λ (k : ℕ). take k (encoded_into l i)) g.count
    ∙ (ap (λ (x : List ℕ). take (length (instruction_bytes i)) x) (good-into i l g.good g.fits)
    ∙ take-append_seam (instruction_bytes i) (drop (length (instruction_bytes i)) l))

pub encoded-decodes : (i : Instruction) (l : List ℕ) (n : ℕ) → encoded_in (length l) i ≡ done n → (s : List ℕ) (at : ℕ) (t : List ℕ) → drop at s ≡ take n (encoded_into l i) ++ t → instruction_at s at ≡ got i (at + n)
encoded-decodes i l n w s at t e =
    let g = wrote-good i (length l) n w in
    encode-decode s at i t g.good (e ∙ ap (λ (x : List ℕ). x ++ t) (starts_with i l n g))
    ∙ ap (λ (k : ℕ). got i (at + k)) (sym g.count)

-- the buffer itself is one
pub encoded-decodes-there : (i : Instruction) (l : List ℕ) (n : ℕ) → encoded_in (length l) i ≡ done n → instruction_at (encoded_into l i) 0 ≡ got i n
encoded-decodes-there i l n w =
    let m = encoded_into l i in
    let e : drop 0 m ≡ take n m ++ drop n m = sym (take-append-drop n m) in
    let z : 0 + n ≡ n = omega arith in
    rw z at (encoded-decodes i l n w m 0 (drop n m) e)

-- ---- an instruction encodes exactly when some bytes decode to it

-- `fits`: its numbers are not too large for their fields, as those of every instruction of the code are by their types
pub record Encodes (i : Instruction) : Type 0 where
  pub fits : LayoutFits (instruction_fields i)
  pub room : ℕ
  pub count : ℕ
  pub answer : encoded_in room i ≡ done count

pub record Decodes (i : Instruction) : Type 0 where
  pub kernel : List ℕ
  pub bytes : Bytes kernel
  pub at : ℕ
  pub next : ℕ
  pub answer : instruction_at kernel at ≡ got i next

pub encodes-exactly : (i : Instruction) → (Encodes i → Decodes i) × (Decodes i → Encodes i)
encodes-exactly i = (there, back)
  where
    there : Encodes i → Decodes i
    there e =
        let g = wrote-good i e.room e.count e.answer in
        record {
          kernel = instruction_bytes i;
          bytes = rw (instruction-bytes i) (layout-fits (instruction_fields i) e.fits);
          at = 0;
          next = 0 + length (instruction_bytes i);
          answer = encode-decode (instruction_bytes i) 0 i [] g.good (sym (append-nil (instruction_bytes i)));
        }

    back : Decodes i → Encodes i
    back d =
        let p = decode-encode d.kernel d.at i d.next d.bytes d.answer in
        let b : Bytes (layout_bytes (instruction_fields i) ++ drop d.next d.kernel) = subst Bytes p.passed.bytes (bytes_drop d.at d.kernel d.bytes) in
        record {
          fits = fits-layout (instruction_fields i) p.good (bytes-before (layout_bytes (instruction_fields i)) (drop d.next d.kernel) b);
          room = length (instruction_bytes i);
          count = length (instruction_bytes i);
          answer = good-encodes i (length (instruction_bytes i)) (instruction-refusal i ∙ p.good) (omega arith);
        }

-- ---- the numbers of a refusal: never 1, since no bytes are read, nor 2, since no instruction has a wrong opcode

pub refusal-numbers : (i : Instruction) (room n : ℕ) → encoded_in room i ≡ refused n → (n ≡ 3) ⊎ ((n ≡ 4) ⊎ (n ≡ 15))
unfolding encoded_in
refusal-numbers i room n e = told (eqb (instruction_refusal i) 0) (ltb room (length (instruction_bytes i))) refl e
  where
    told : (b d : Bool) → eqb (instruction_refusal i) 0 ≡ b → cond b (cond d (refused 15) (done (length (instruction_bytes i)))) (refused (instruction_refusal i)) ≡ refused n → (n ≡ 3) ⊎ ((n ≡ 4) ⊎ (n ≡ 15))
    told true true p w = inr (inr (cc))
    told true false p w = absurd (let z : ◌≡◌ {A = ℕ} 0 1 = cc in omega arith)
    told false d p w =
        let m : n ≡ instruction_refusal i = cc in
        ⊎_elim
        (λ z. absurd (true≢false (sym (eq-eqb (instruction_refusal i) 0 z) ∙ p)))
        (λ w. ⊎_elim (λ three. inl (m ∙ three)) (λ four. inr (inl (m ∙ four))) w)
        (instruction-refusals i)
