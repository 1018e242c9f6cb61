-- What reading a text and encoding what it says come to: an encoding, no room for it, or no line; and answers that are the same, and those that never are.
use mathlib.Core.Path.{◌≡◌, refl, ap}
use mathlib.Core.List.{List}
use Prim.Native.Nat.{ℕ}
use native.Mathlib.Omega.{arith}
use lib.ListN.{length}
use Rattle.reader.specs.Reply.{refused, done}
use Rattle.decoder.specs.declared.Instruction.{Instruction}
use Rattle.encoder.specs.Encoding.{encoded_in, encoded_into}
use Rattle.lines.specs.Reading.{is_line, no_line, reading_of}
use Rattle.text.specs.Assembling.{Assembly, wrote, refused as not-read, assembled_in, assembled_into}

-- ---- answers that are the same, and those that never are

pub same_count : (n k : ℕ) → wrote n ≡ wrote k → n ≡ k
same_count n k e = ap count e
  where
    count : Assembly → ℕ
    count (wrote m) = m
    count (not-read m c) = 0

pub same-refusal : (n c k d : ℕ) → not-read n c ≡ not-read k d → (n ≡ k) × (c ≡ d)
same-refusal n c k d e = (ap number e, ap column e)
  where
    number : Assembly → ℕ
    number (wrote m) = 0
    number (not-read m x) = m

    column : Assembly → ℕ
    column (wrote m) = 0
    column (not-read m x) = x

pub wrote-not-refused : {X : Type 0} (m n c : ℕ) → wrote m ≡ not-read n c → X
wrote-not-refused m n c e = absurd (let z : ◌≡◌ {A = ℕ} 0 1 = ap is e in omega arith)
  where
    is : Assembly → ℕ
    is (wrote m) = 0
    is (not-read m x) = 1

-- ---- the three answers

module _ (t l : List ℕ) where
  pub line-encoded : (i : Instruction) (n : ℕ) (m : List ℕ) → is_line i ≡ reading_of t → done n ≡ encoded_in (length l) i → m ≡ encoded_into l i → (wrote n ≡ assembled_in (length l) t) × (m ≡ assembled_into l t)
  unfolding assembled_in assembled_into
  line-encoded i n m p q e = rw (← p, ← q) (refl, e)

  pub line_refused : (i : Instruction) (n : ℕ) (m : List ℕ) → is_line i ≡ reading_of t → refused n ≡ encoded_in (length l) i → m ≡ encoded_into l i → (not-read n 0 ≡ assembled_in (length l) t) × (m ≡ assembled_into l t)
  unfolding assembled_in assembled_into
  line_refused i n m p q e = rw (← p, ← q) (refl, e)

  pub no_line_lem : (column : ℕ) → no_line column ≡ reading_of t → (not-read 16 column ≡ assembled_in (length l) t) × (l ≡ assembled_into l t)
  unfolding assembled_in assembled_into
  no_line_lem column p = rw (← p) (refl, refl)
