-- The lines that are put out, written piece by piece.
use mathlib.Core.Path.{◌≡◌, refl, sym, ap, ◌∙◌}
use mathlib.Core.List.{List, [], ◌∷◌, ◌++◌}
use Prim.Native.Nat.{ℕ, ◌+◌, ◌≤◌, ◌<◌}
use native.Mathlib.Numerals.{add-one}
use lib.ListN.{length, get_or, take, drop, drop_of_length-le}
use lib.Seq.{drop-cons}
use Rattle.std.proofs.lemmas.List.{take_more}
use Rattle.hex_text.specs.Bytes.{hex_of}
use Rattle.hex_text.proofs.ByteLaws.{hex-none, hex-append}
use Rattle.formats.specs.Text.{text}
use Rattle.formats.specs.Words.{words, word_at}
use Rattle.formats.specs.Numerals.{digits_of}
use Rattle.format_writers.specs.declared.Page.{Page}
use Rattle.format_writers.specs.Writing.{wrote, written}
use Rattle.format_writers.specs.Pages.{Writes}
use Rattle.format_writers.proofs.WritingLaws.{wrote_then, wrote_none, wrote-inside}
use Rattle.format_writers.proofs.PageLaws.{writes_as, writes_then}
use Rattle.line_blocks.specs.LinesOf.{line_end}
use Rattle.assembler.specs.Assembling.{column_line}

abbrev feed : List ℕ
feed = 0x0a ∷ 0x7c ∷ []

pub column-written : {a b c d : Page} (column : ℕ) → Writes a b (word_at (words (text "! 16 |")) 0) → Writes b c (digits_of 10 column) → Writes c d (word_at (words feed) 0) → Writes a d (column_line column)
unfolding column_line words word_at
column-written column p q r = writes_then p (writes_then q r)

pub line-written : {a b c : Page} {t : List ℕ} → Writes a b t → Writes b c (word_at (words feed) 0) → Writes a c (t ++ line_end)
unfolding words word_at
line-written p q = writes_then p q

-- ---- bytes

pub none_written : {a b : Page} → Writes a b (word_at (words (text "|")) 0) → Writes a b (hex_of [])
unfolding words word_at
none_written p = writes_as p hex-none

pub byte_more : {a b c : Page} (bytes : List ℕ) (i : ℕ) → i < length bytes → Writes a b (hex_of (take i bytes)) → Writes b c (hex_of (get_or bytes i 0 ∷ [])) → Writes a c (hex_of (take (i + 1) bytes))
byte_more bytes i h p q = writes_as (writes_then p q) (rw (take_more bytes i 0 h) (hex-append (take i bytes) (get_or bytes i 0 ∷ [])))

-- what is still to be written of them, from a place on
abbrev pub Rest : List ℕ → List ℕ → ℕ → List ℕ → ℕ → ℕ → Type 0
Rest bytes l at m to i = (written m to (hex_of (drop i bytes)) ≡ written l at (hex_of bytes)) × (to ≤ length m)

pub rest-none : (bytes l m : List ℕ) (at to : ℕ) → wrote to m ≡ written l at (word_at (words (text "|")) 0) → Rest bytes m to m to 0
unfolding words word_at
rest-none bytes l m at to p = (refl, wrote-inside l at [] to m p)

pub rest_more : (bytes l m n : List ℕ) (at to e i : ℕ) → i < length bytes → wrote e n ≡ written m to (hex_of (get_or bytes i 0 ∷ [])) → Rest bytes l at m to i → Rest bytes l at n e (i + 1)
rest_more bytes l m n at to e i h p r =
    let b = get_or bytes i 0 in
    let u = hex_of (drop (i + 1) bytes) in
    let x : hex_of (b ∷ []) ++ u ≡ hex_of (drop i bytes) = sym (hex-append (b ∷ []) (drop (i + 1) bytes)) ∙ ap hex_of (ap (λ (k : ℕ). b ∷ drop k bytes) (add-one i) ∙ sym (drop-cons bytes i 0 h)) in (
      wrote_then m to (hex_of (b ∷ [])) u e n (written n e u).end (written n e u).buffer p refl ∙ (ap (written m to) x ∙ r.0),
      wrote-inside m to (hex_of (b ∷ [])) e n p,
    )

pub rest_over : (bytes l k m : List ℕ) (at from to i : ℕ) → length bytes ≤ i → wrote from k ≡ written l at (word_at (words (text "|")) 0) → Rest bytes k from m to i → wrote to m ≡ written l at (hex_of bytes)
unfolding words word_at
rest_over bytes l k m at from to i h p r =
    wrote_then l at [] (hex_of bytes) from k to m p (wrote_none m (hex_of (drop i bytes)) to r.1 (ap hex_of (drop_of_length-le bytes h) ∙ hex-none) ∙ r.0)
