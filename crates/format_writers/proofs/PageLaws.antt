-- Texts written into a page one after another are one text.
use mathlib.Core.Path.{◌≡◌, ap, sym, ◌∙◌}
use mathlib.Core.List.{List, ◌++◌}
use Prim.Native.Nat.{ℕ}
use Rattle.format_writers.specs.declared.Page.{Page}
use Rattle.format_writers.specs.Writing.{written}
use Rattle.format_writers.specs.Pages.{Writes}
use Rattle.format_writers.proofs.WritingLaws.{wrote_then}

-- a text told in another way
pub writes_as : {a b : Page} {s t : List ℕ} → Writes a b s → t ≡ s → Writes a b t
writes_as {a} {b} {s} {t} v e = record { out = v.out; content = v.content ∙ ap (written a.out.now a.at) (sym e) }

pub writes_then : {a b c : Page} {s t : List ℕ} → Writes a b s → Writes b c t → Writes a c (s ++ t)
writes_then {a} {b} {c} {s} {t} v w = record {
  out = w.out ∙ v.out;
  content = wrote_then a.out.now a.at s t b.at b.out.now c.at c.out.now v.content w.content;
}

-- the parts of a text, written one after another
pub writes_two : {a b c : Page} {s t u : List ℕ} → Writes a b s → Writes b c t → u ≡ s ++ t → Writes a c u
writes_two v w e = writes_as (writes_then v w) e

pub writes_three : {a b c d : Page} {s t u v : List ℕ} → Writes a b s → Writes b c t → Writes c d u → v ≡ s ++ (t ++ u) → Writes a d v
writes_three p q r e = writes_as (writes_then p (writes_then q r)) e

pub writes_four : {a b c d e : Page} {s t u v w : List ℕ} → Writes a b s → Writes b c t → Writes c d u → Writes d e v → w ≡ s ++ (t ++ (u ++ v)) → Writes a e w
writes_four p q r s e = writes_as (writes_then p (writes_then q (writes_then r s))) e

pub writes_five : {a b c d e f : Page} {s t u v w x : List ℕ} → Writes a b s → Writes b c t → Writes c d u → Writes d e v → Writes e f w → x ≡ s ++ (t ++ (u ++ (v ++ w))) → Writes a f x
writes_five p q r s t e = writes_as (writes_then p (writes_then q (writes_then r (writes_then s t)))) e
