-- What reading a text into a buffer that has room for every encoding says of the line that is put out.
use mathlib.Core.Path.{◌≡◌, refl, sym, ap, ◌∙◌, subst}
use mathlib.Core.Bool.{Bool, true, false}
use mathlib.Core.List.{List, ◌++◌}
use Prim.Native.Nat.{ℕ, ◌≤◌, ◌<◌}
use native.Mathlib.Omega.{arith}
use lib.Dec.{ltb, leb}
use lib.ListN.{length, take, drop, length-append}
use lib.Seq.{take-append_seam, take_all}
use borrow.Author.Tests.{eq-eqb, le-ltb, leb-true, leb-false}
use Rattle.reader.specs.Reply.{done, on_reply}
use Rattle.hex_text.specs.Bytes.{hex_of}
use Rattle.hex_text.proofs.ByteLaws.{length-written}
use Rattle.formats.specs.Numerals.{digits_of}
use Rattle.format_writers.specs.Writing.{wrote, written}
use Rattle.formats.proofs.ShortLaws.{digits-most}
use Rattle.decoder.specs.declared.Instruction.{Instruction}
use Rattle.decoder.specs.Format.{instruction_bytes, instruction_refusal}
use Rattle.decoder.proofs.FormatLaws.{instruction-at-most}
use Rattle.encoder.specs.Encoding.{encoded_in, encoded_into}
use Rattle.lines.specs.Reading.{Reading, is_line, not_read, on_reading, reading_of}
use Rattle.lines.proofs.Statements.{read-line}
use Rattle.lines.proofs.LongLaws.{long-text}
use Rattle.text.specs.Assembling.{wrote as is_wrote, refused as is_refused, assembled_in, assembled_into}
use Rattle.text.proofs.AssemblingLaws.{same_count, same-refusal, wrote-not-refused}
use Rattle.line_blocks.specs.LinesOf.{line_end}
use Rattle.assembler.specs.Assembling.{column_line, line_for, assembled_line}

-- ---- how long it is

column-short : (column : ℕ) → column < 18446744073709551616 → length (column_line column) ≤ 256
unfolding column_line
column-short column h = let a = digits-most column h in let b = length-append (digits_of 10 column) line_end in omega (arith, a, b)

-- ---- the two answers

module _ (i : Instruction) (l : List ℕ) (room : length l ≡ 64) (good : instruction_refusal i ≡ 0) where
  fits : ltb (length l) (length (instruction_bytes i)) ≡ false
  fits = le-ltb (length l) (length (instruction_bytes i)) (omega (arith, room, instruction-at-most i))

  encoded : encoded_in (length l) i ≡ done (length (instruction_bytes i))
  unfolding encoded_in
  encoded = rw (eq-eqb (instruction_refusal i) 0 good, fits)

  encoding : encoded_into l i ≡ instruction_bytes i ++ drop (length (instruction_bytes i)) l
  unfolding encoded_into
  encoding = rw encoded

-- what the line is, and how long
abbrev pub Put : List ℕ → List ℕ → Type 0
Put t out = (out ≡ assembled_line t) × (length (assembled_line t) ≤ 256)

module _ (t l : List ℕ) (room : length l ≡ 64) where
  encoded-line : (i : Instruction) → instruction_refusal i ≡ 0 → (n : ℕ) (m : List ℕ) → n ≡ length (instruction_bytes i) → m ≡ encoded_into l i →
      (hex_of (take n m) ++ line_end ≡ hex_of (instruction_bytes i) ++ line_end) × (length (hex_of (instruction_bytes i) ++ line_end) ≤ 256)
  encoded-line i g n m e p =
      let b = instruction_bytes i in
      let x : take n m ≡ b = ap (take n) (p ∙ encoding i l room g) ∙ (ap (λ (k : ℕ). take k (b ++ drop (length b) l)) e ∙ take-append_seam b (drop (length b) l)) in
      (ap (λ (y : List ℕ). hex_of y ++ line_end) x, omega (arith, length-append (hex_of b) line_end, length-written b, instruction-at-most i))

  pub wrote-line : (n : ℕ) (m : List ℕ) → is_wrote n ≡ assembled_in (length l) t → m ≡ assembled_into l t → Put t (hex_of (take n m) ++ line_end)
  unfolding assembled_line assembled_in assembled_into
  wrote-line n m e p = told (reading_of t) refl e p
    where
      told : (r : Reading) → reading_of t ≡ r → is_wrote n ≡ on_reading r (λ i. on_reply (encoded_in (length l) i) (λ k. is_refused k 0) is_wrote) is_refused →
          m ≡ on_reading r (λ i. encoded_into l i) (λ _ _. l) →
          (hex_of (take n m) ++ line_end ≡ line_for r) × (length (line_for r) ≤ 256)
      told (is_line i) r e p =
          let g = (read-line t i r).0.0 in
          let x : is_wrote n ≡ is_wrote (length (instruction_bytes i)) = rw (encoded i l room g) at e in
          encoded-line i g n m (same_count n (length (instruction_bytes i)) x) p
      told (not_read k c) r e p = wrote-not-refused n k c e

  pub refused-line : (k c : ℕ) → c < 18446744073709551616 → is_refused k c ≡ assembled_in (length l) t → Put t (column_line c)
  unfolding assembled_line assembled_in
  refused-line k c h e = told (reading_of t) refl e
    where
      told : (r : Reading) → reading_of t ≡ r → is_refused k c ≡ on_reading r (λ i. on_reply (encoded_in (length l) i) (λ k. is_refused k 0) is_wrote) is_refused →
          (column_line c ≡ line_for r) × (length (line_for r) ≤ 256)
      told (is_line i) r e =
          let x : is_refused k c ≡ is_wrote (length (instruction_bytes i)) = rw (encoded i l room (read-line t i r).0.0) at e in
          wrote-not-refused (length (instruction_bytes i)) k c (sym x)
      told (not_read m d) r e =
          let x = (same-refusal k c m d e).1 in
          (ap column_line x, subst (λ (n : ℕ). length (column_line n) ≤ 256) x (column-short c h))

-- as the function writes them
module _ (t l out after : List ℕ) (at e : ℕ) (room : length l ≡ 64) where
  pub wrote-put : (n : ℕ) (m part : List ℕ) → is_wrote n ≡ assembled_in (length l) t → m ≡ assembled_into l t → part ≡ take n m → wrote e after ≡ written out at (hex_of part ++ line_end) →
      (wrote e after ≡ written out at (assembled_line t)) × (length (assembled_line t) ≤ 256)
  wrote-put n m part a p q w =
      let x = wrote-line t l room n m a p in
      (w ∙ ap (written out at) (ap (λ (b : List ℕ). hex_of b ++ line_end) q ∙ x.0), x.1)

  pub refused-put : (k c : ℕ) → c < 18446744073709551616 → is_refused k c ≡ assembled_in (length l) t → wrote e after ≡ written out at (column_line c) →
      (wrote e after ≡ written out at (assembled_line t)) × (length (assembled_line t) ≤ 256)
  refused-put k c h a w =
      let x = refused-line t l room k c h a in
      (w ∙ ap (written out at) x.0, x.1)

-- a long text is read as its start
pub start-assembled : (t : List ℕ) → assembled_line (take 128 t) ≡ assembled_line t
unfolding assembled_line
start-assembled t = told (leb (length t) 128) refl
  where
    told : (b : Bool) → leb (length t) 128 ≡ b →
        line_for (reading_of (take 128 t)) ≡ line_for (reading_of t)
    told true e = rw (take_all 128 t (leb-true (length t) 128 e))
    told false e = ap line_for (sym (long-text t (leb-false (length t) 128 e)))
