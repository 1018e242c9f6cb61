-- The line and its detail: written piece by piece, and how long they are.
use mathlib.Core.Path.{◌≡◌, refl}
use mathlib.Core.List.{[], ◌∷◌, ◌++◌}
use Prim.Native.Nat.{ℕ, ◌≤◌, ◌<◌}
use native.Mathlib.Omega.{arith}
use lib.Dec.{leb}
use lib.ListN.{length, length-append}
use borrow.Author.Tests.{le-leb}
use Rattle.formats.specs.Text.{text}
use Rattle.formats.specs.Words.{words, word_at}
use Rattle.formats.specs.Numerals.{digits_of}
use Rattle.formats.specs.Numbers.{number}
use Rattle.format_writers.specs.declared.Page.{Page}
use Rattle.format_writers.specs.Pages.{Writes}
use Rattle.formats.proofs.Tests.{both}
use Rattle.formats.proofs.ShortLaws.{short-number, digits-most}
use Rattle.format_writers.proofs.PageLaws.{writes_then}
use Rattle.refusal.specs.declared.Detail.{Detail}
use Rattle.refusal.specs.declared.Detail.TheVariants as detail
use Rattle.verdict_line.specs.VerdictLine.{detail_text, verdict_line}

digits-byte : (v : ℕ) → v < 256 → length (digits_of 10 v) ≤ 3
unfolding number
digits-byte v h = (short-number 10 0 255 2 (omega arith) refl).most v (both (leb 0 v) (leb v 255) (le-leb 0 v (omega arith)) (le-leb v 255 (omega (arith, h))))

-- ---- the detail

-- written, and how long it is at most
abbrev pub DetailPut : Detail → Page → Page → Type 0
DetailPut d a b = Writes a b (detail_text d) × (length (detail_text d) ≤ 21)

pub none-put : (d : Detail) {a b : Page} → d ≡ detail.None → Writes a b (word_at (words (text "|")) 0) → DetailPut d a b
unfolding detail_text words word_at
none-put d k p = rw k (p, omega arith)

pub operand-put : (d : Detail) {a b c : Page} (place : ℕ) → d ≡ detail.Operand place → place < 256 →
    Writes a b (word_at (words (text " operand |")) 0) → Writes b c (digits_of 10 place) → DetailPut d a c
unfolding detail_text words word_at
operand-put d place k h p q =
    rw k (writes_then p q, omega (arith, digits-byte place h, length-append (text " operand ") (digits_of 10 place)))

pub pair_put : (d : Detail) {a b c e f : Page} (channel lane : ℕ) → d ≡ detail.Pair channel lane → channel < 256 → lane < 256 →
    Writes a b (word_at (words (text " channel |")) 0) → Writes b c (digits_of 10 channel) → Writes c e (word_at (words (text " lane |")) 0) → Writes e f (digits_of 10 lane) → DetailPut d a f
unfolding detail_text words word_at
pair_put d channel lane k i j p q r t =
    let rest = text " lane " ++ digits_of 10 lane in
    rw k (
      writes_then p (writes_then q (writes_then r t)),
      omega (arith, digits-byte channel i, digits-byte lane j, length-append (digits_of 10 channel) rest),
    )

-- ---- the line

-- a number of a byte, two of 64 bits, and a detail: their characters, two spaces and the line's end
pub verdict-short : (number completed position : ℕ) (d : Detail) → number < 256 → completed < 18446744073709551616 → position < 18446744073709551616 → length (detail_text d) ≤ 21 →
    length (verdict_line number completed position d) ≤ 67
unfolding verdict_line
verdict-short number completed position d h i j k =
    let a = detail_text d ++ (10 ∷ []) in
    let b = digits_of 10 position ++ a in
    let c = digits_of 10 completed ++ (text " " ++ b) in
    omega (
      arith,
      digits-byte number h,
      digits-most completed i,
      digits-most position j,
      k,
      length-append (digits_of 10 number) (text " " ++ c),
      length-append (digits_of 10 completed) (text " " ++ b),
      length-append (digits_of 10 position) a,
      length-append (detail_text d) (10 ∷ []),
    )

-- no line is empty
pub verdict-some : (number completed position : ℕ) (d : Detail) → 0 < length (verdict_line number completed position d)
unfolding verdict_line
verdict-some number completed position d =
    let a = digits_of 10 completed ++ (text " " ++ (digits_of 10 position ++ (detail_text d ++ (10 ∷ [])))) in
    omega (arith, length-append (digits_of 10 number) (text " " ++ a))

pub verdict-put : {a b c e f g h : Page} {i : Page} (number completed position : ℕ) (d : Detail) →
    number < 256 → completed < 18446744073709551616 → position < 18446744073709551616 →
    Writes a b (digits_of 10 number) → Writes b c (word_at (words (text " |")) 0) → Writes c e (digits_of 10 completed) → Writes e f (word_at (words (text " |")) 0) →
    Writes f g (digits_of 10 position) → DetailPut d g h → Writes h i (word_at (words (10 ∷ 124 ∷ [])) 0) →
    Writes a i (verdict_line number completed position d) × (length (verdict_line number completed position d) ≤ 67)
unfolding verdict_line words word_at
verdict-put number completed position d k l m p q r s t u v =
    (writes_then p (writes_then q (writes_then r (writes_then s (writes_then t (writes_then u.0 v))))), verdict-short number completed position d k l m u.1)
