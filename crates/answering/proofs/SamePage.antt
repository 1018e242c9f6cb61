-- A text written from a buffer's start on, as `formats` tells it, is the page that `output` tells of.
use mathlib.Core.Path.{◌≡◌, refl, sym, ap, ap₂, ◌∙◌}
use mathlib.Core.Bool.{Bool, true, false}
use mathlib.Core.List.{List, [], ◌∷◌}
use Prim.Native.Nat.{ℕ, suc, ◌+◌, ◌≤◌, ◌<◌}
use native.Mathlib.Omega.{arith}
use native.Mathlib.Numerals.{add-one}
use lib.Dec.{ltb}
use lib.ListN.{length, set, length-set}
use lib.Seq.{set_out}
use borrow.Author.Tests.{le-ltb, lt-ltb, ltb-true, ltb-false}
use Rattle.hex_text.specs.Storing.{placed}
use Rattle.hex_text.proofs.StoringLaws.{placed-none, placed-more}
use Rattle.format_writers.specs.Writing as formats
use Rattle.format_writers.specs.Writing.{Written, within, wrote}
use Rattle.format_writers.proofs.WritingLaws.{within-inside}
use Rattle.output.specs.Mirror.Page.{page, pushed, written}

-- past the end nothing is written
page-outside : (t l : List ℕ) (at : ℕ) → length l ≤ at → written t (page l at) ≡ page l at
unfolding written pushed
page-outside [] l at h = refl
page-outside (c ∷ t) l at h = rw (le-ltb at (length l) h) (page-outside t l at h)

placed-outside : (t l : List ℕ) (at : ℕ) → length l ≤ at → placed l at t ≡ l
placed-outside [] l at h = placed-none l at
placed-outside (c ∷ t) l at h = placed-more l at c t ∙ (ap (λ (m : List ℕ). placed m (suc at) t) (set_out l at c h) ∙ placed-outside t l (suc at) (omega arith))

within-outside : (room at : ℕ) → room ≤ at → within room at ≡ room
unfolding within
within-outside room at h = rw (le-ltb at room h)

pushed-inside : (c : ℕ) (l : List ℕ) (at : ℕ) → at < length l → pushed c (page l at) ≡ page (set l at c) (suc at)
unfolding pushed
pushed-inside c l at h = rw (lt-ltb at (length l) h, add-one at)

written-page : (t l : List ℕ) (at : ℕ) → at ≤ length l → written t (page l at) ≡ page (placed l at t) (within (length l) (at + length t))
unfolding written
written-page [] l at h = ap₂ page (sym (placed-none l at)) (sym (ap (within (length l)) (omega arith) ∙ within-inside (length l) at h))
written-page (c ∷ t) l at h = told (ltb at (length l)) refl (λ k. written-page t (set l at c) (suc at) k)
  where
    told : (b : Bool) → ltb at (length l) ≡ b →
        (suc at ≤ length (set l at c) → written t (page (set l at c) (suc at)) ≡ page (placed (set l at c) (suc at) t) (within (length (set l at c)) (suc at + length t))) →
        written t (pushed c (page l at)) ≡ page (placed l at (c ∷ t)) (within (length l) (at + suc (length t)))
    told true e on =
        let k = ltb-true at (length l) e in
        ap (written t) (pushed-inside c l at k)
        ∙ (on (omega (arith, k, length-set l at c))
        ∙ ap₂ page (sym (placed-more l at c t)) (ap (λ (n : ℕ). within n (suc at + length t)) (length-set l at c) ∙ ap (within (length l)) (omega arith)))
    told false e on =
        let k = ltb-false at (length l) e in
        page-outside (c ∷ t) l at k
        ∙ ap₂ page (sym (placed-outside (c ∷ t) l at k)) (omega (arith, h, k, within-outside (length l) (at + suc (length t)) (omega (arith, k))))

pub same-page : (t out after : List ℕ) (used : ℕ) → wrote used after ≡ formats.written out 0 t → page after used ≡ written t (page out 0)
unfolding formats.written
same-page t out after used e = ap (λ (w : Written). page w.buffer w.end) e ∙ sym (written-page t out 0 (omega arith))
