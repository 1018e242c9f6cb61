-- What is claimed of lines: each instruction that the encoder takes has one, which is read back; no other text is read; and what the column of a 16 says,
-- which is the only one that says so.
use mathlib.Core.Path.{◌≡◌, refl, sym, ap, ◌∙◌, subst}
use mathlib.Core.List.{List, ◌++◌, append_assoc}
use mathlib.Core.Logic.{◌⊎◌, inl, inr}
use mathlib.Core.Bool.{true}
use Prim.Native.Nat.{ℕ, suc, ◌+◌, ◌-◌, ◌≤◌, ◌<◌}
use native.Mathlib.Omega.{arith}
use lib.ListN.{length, take, drop, take-append-drop}
use lib.Seq.{take-take}
use Rattle.little_endian.specs.LittleEndian.{Bytes}
use Rattle.little_endian.proofs.Parts.{bytes-before, bytes_drop}
use Rattle.reader.specs.Reply.{got as got-at}
use Rattle.formats.specs.Format.{Out, got, stop, on_out}
use Rattle.formats.specs.Whole.{whole, Viable, Column}
use Rattle.formats.proofs.WholeLaws.{print-read, read-print, read-column}
use Rattle.decoder.specs.declared.Instruction.{Instruction}
use Rattle.decoder.specs.Decoding.{instruction_at}
use Rattle.decoder.specs.Format.{instruction_bytes, instruction_refusal}
use Rattle.decoder.proofs.DecodeEncode.{decode-encode}
use Rattle.lines.specs.Mirror.Line.{line_fits, line}
use Rattle.lines.specs.LineOf.{line_of}
use Rattle.lines.specs.Reading.{Reading, is_line, no_line, reading_of, on_reading}
use Rattle.lines.specs.Claims.{Encodes, LineBegins, IsColumn}
use Rattle.line_parts.proofs.EndLaws.{goes_on}
use Rattle.lines.proofs.LineLaws.{line-lawful, line-good}
use Rattle.lines.proofs.EncodesLaws.{fits-encodes, encodes-fits}
use Rattle.lines.proofs.PrintLaws.{line-prints}
use Rattle.lines.proofs.LengthLaws.{line-below}

-- ---- two readings that are the same

same_line : (i j : Instruction) → is_line i ≡ is_line j → i ≡ j
same_line i j p = ap (λ (r : Reading). on_reading r (λ k. k) (λ _ _. i)) p

same-column : (k j : ℕ) → no_line k ≡ no_line j → k ≡ j
same-column k j p = ap (λ (r : Reading). on_reading r (λ _. k) (λ _ c. c)) p

no_line_lem : (i : Instruction) (k : ℕ) → is_line i ≡ no_line k → ⊥
no_line_lem i k p = subst (λ (r : Reading). on_reading r (λ _. Unit) (λ _ _. ⊥)) p tt

-- ---- what is printed and what is read

pub line_read : (i : Instruction) → Encodes i → reading_of (line_of i) ≡ is_line i
unfolding reading_of
line_read i e =
    let h = encodes-fits i e.0 e.1 in
    let w : whole line (line.print i) ≡ got i (length (line.print i)) = print-read line goes_on line-lawful i (rw (line-good i) h) in
    rw (← line-prints i h, w)

pub read-line : (t : List ℕ) (i : Instruction) → reading_of t ≡ is_line i → Encodes i × (t ≡ line_of i)
unfolding reading_of
read-line t i = told (whole line t) refl
  where
    told : (o : Out Instruction) → whole line t ≡ o → on_out o (λ k. no_line (suc k)) (λ i e. is_line i) ≡ is_line i → Encodes i × (t ≡ line_of i)
    told (got j n) w p =
        let r = read-print line goes_on line-lawful t j n w in
        let h : line_fits j ≡ true = rw (line-good j) at r.0 in
        subst (λ (x : Instruction). Encodes x × (t ≡ line_of x)) (same_line j i p) (fits-encodes j h, r.1 ∙ line-prints j h)
    told (stop k) w p = absurd (no_line_lem i (suc k) (sym p))

-- no two instructions have the same line
pub one_line : (i j : Instruction) → Encodes i → Encodes j → line_of i ≡ line_of j → i ≡ j
one_line i j e f p = same_line i j (sym (line_read i e) ∙ ap reading_of p ∙ line_read j f)

-- a bound for buffers
pub line-length : (i : Instruction) → Encodes i → length (line_of i) ≤ 123
line-length i e = let h = encodes-fits i e.0 e.1 in rw (← line-prints i h) (line-below.most i (rw (line-good i) h))

-- whatever decodes has a line
pub decoded-line : (kernel : List ℕ) (at : ℕ) (i : Instruction) (next : ℕ) → Bytes kernel → instruction_at kernel at ≡ got-at i next → Encodes i
unfolding instruction_bytes instruction_refusal
decoded-line kernel at i next b e =
    let p = decode-encode kernel at i next b e in
    (p.good, bytes-before (instruction_bytes i) (drop next kernel) (subst Bytes p.passed.bytes (bytes_drop at kernel b)))

-- ---- the column

begins : (p : List ℕ) → Viable line p → LineBegins p
begins p v =
    let h : line_fits v.value ≡ true = rw (line-good v.value) at v.fine in
    record { of = v.value; encodes = fits-encodes v.value h; rest = v.rest; text = sym (line-prints v.value h) ∙ v.text }

viable : (p : List ℕ) → LineBegins p → Viable line p
viable p b =
    let h = encodes-fits b.of b.encodes.0 b.encodes.1 in
    record { value = b.of; fine = rw (line-good b.of) h; rest = b.rest; text = line-prints b.of h ∙ b.text }

pub column : (t : List ℕ) (k : ℕ) → reading_of t ≡ no_line k → IsColumn t k
unfolding reading_of
column t k = told (whole line t) refl
  where
    here : (j : ℕ) → (j ≡ length t) ⊎ (Viable line (take (suc j) t) → ⊥) → (suc j ≡ length t + 1) ⊎ (LineBegins (take (suc j) t) → ⊥)
    here j (inl e) = inl (omega (arith, e))
    here j (inr n) = inr (λ b. n (viable (take (suc j) t) b))

    of : (j : ℕ) → reading_of t ≡ no_line (suc j) → Column line t j → IsColumn t (suc j)
    of j p c =
        let e : suc j - 1 ≡ j = omega arith in
        record { none = λ i h q. no_line_lem i (suc j) (sym (line_read i h) ∙ ap reading_of q ∙ p); first = omega arith; last = omega (arith, c.inside); before = rw e (begins (take j t) c.before); here = here j c.here }

    told : (o : Out Instruction) → whole line t ≡ o → on_out o (λ k. no_line (suc k)) (λ i e. is_line i) ≡ no_line k → IsColumn t k
    told (got j n) w p = absurd (no_line_lem j k p)
    told (stop j) w p = subst (IsColumn t) (same-column (suc j) k p) (of j (ap (λ (o : Out Instruction). on_out o (λ k. no_line (suc k)) (λ i e. is_line i)) w) (read-column line goes_on line-lawful t j w))

-- ---- a reading is a line's or a 16

pub reading-then : (t : List ℕ) (P : Reading → Type 0) → ((i : Instruction) → reading_of t ≡ is_line i → P (is_line i)) → ((k : ℕ) → reading_of t ≡ no_line k → P (no_line k)) → P (reading_of t)
unfolding reading_of
reading-then t P f g = told (whole line t) refl
  where
    told : (o : Out Instruction) → whole line t ≡ o → P (on_out o (λ k. no_line (suc k)) (λ i e. is_line i))
    told (got i n) w = f i (ap (λ (o : Out Instruction). on_out o (λ k. no_line (suc k)) (λ i e. is_line i)) w)
    told (stop k) w = g (suc k) (ap (λ (o : Out Instruction). on_out o (λ k. no_line (suc k)) (λ i e. is_line i)) w)

-- ---- a text has one column, so that what is read is said by `line_of` alone

begins-start : (j k : ℕ) (t : List ℕ) → j ≤ k → LineBegins (take k t) → LineBegins (take j t)
begins-start j k t h b =
    let e : take k t ≡ take j t ++ drop j (take k t) = sym (take-append-drop j (take k t)) ∙ ap (λ (l : List ℕ). l ++ drop j (take k t)) (take-take j k t h) in
    record {
      of = b.of;
      encodes = b.encodes;
      rest = drop j (take k t) ++ b.rest;
      text = b.text ∙ ap (λ (l : List ℕ). l ++ b.rest) e ∙ append_assoc (take j t) (drop j (take k t)) b.rest;
    }

pub one-column : (t : List ℕ) (j k : ℕ) → IsColumn t j → IsColumn t k → j ≡ k
one-column t j k p q = omega (arith, not-below j k p q, not-below k j q p)
  where
    on : (a b : ℕ) → IsColumn t b → a < b → (a ≡ length t + 1) ⊎ (LineBegins (take a t) → ⊥) → ⊥
    on a b q h (inl e) = omega (arith, h, e, q.last)
    on a b q h (inr n) = n (begins-start a (b - 1) t (omega (arith, h)) q.before)

    not-below : (a b : ℕ) → IsColumn t a → IsColumn t b → b ≤ a
    not-below a b p q = let n : a < b → ⊥ = λ h. on a b q h p.here in omega (arith, n)

pub column-read : (t : List ℕ) (k : ℕ) → IsColumn t k → reading_of t ≡ no_line k
column-read t k c =
    reading-then t (λ r. r ≡ no_line k)
    (λ i p. absurd (let x = read-line t i p in c.none i x.0 (sym x.1)))
    (λ j p. ap no_line (one-column t j k (column t j p) c))
