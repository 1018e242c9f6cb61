-- How long the parts of a line are at most.
use mathlib.Core.Path.{refl}
use Prim.Native.Nat.{ℕ}
use native.Mathlib.Omega.{arith}
use mathlib.Core.Bool.{cond}
use lib.Dec.{eqb}
use Rattle.formats.specs.Text.{text}
use Rattle.formats.proofs.TableTests.{single}
use Rattle.formats.proofs.ShortLaws.{Short, short-pair, short-through, short-blank, short-cond, narrow, short-table, short-number, short-before, short-after}
use Rattle.control_texts.specs.Mirror.Predicate.{zeros}
use Rattle.text_parts.specs.Mirror.Fields.{decimal, hexadecimal}
use Rattle.text_parts.proofs.LengthLaws.{raw-short}
use Rattle.line_parts.specs.Mirror.Braces.{bracing, scale_behind, size_and_scale, gather_braces, scale_alone, scatter_braces}
use Rattle.line_parts.specs.Mirror.Parts.{space, scalar_and_raws, surface, message}
use Rattle.operand_texts.proofs.LengthLaws.{source-short}
use Rattle.line_parts.proofs.BracesLaws.{gather-braces-matches, scatter-braces-matches}

-- ---- ` {255,65535}` and ` {65535}`

size-and-scale-short : (braced : ℕ) → Short (size_and_scale braced) 10
unfolding size_and_scale scale_behind decimal narrow single
size-and-scale-short braced =
    short-cond (eqb braced 0) (short-blank (0, 0) zeros 10)
    (short-pair {n = 4} {m = 6} (short-after (text ",|") 1 refl refl (short-number 10 0 255 2 (omega arith) refl)) (λ size. short-after (text "}|") 1 refl refl (short-number 10 (cond (eqb size 0) 1 0) 65535 4 (omega arith) refl)))

pub gather-braces-short : Short gather_braces 12
unfolding gather_braces narrow
gather-braces-short = short-through (short-pair {n = 2} {m = 10} (short-table bracing 2 refl) size-and-scale-short) gather-braces-matches

scale-alone-short : (braced : ℕ) → Short (scale_alone braced) 6
unfolding scale_alone decimal narrow single
scale-alone-short braced = short-cond (eqb braced 0) (short-blank 0 (λ s. eqb s 0) 6) (short-after (text "}|") 1 refl refl (short-number 10 1 65535 4 (omega arith) refl))

pub scatter-braces-short : Short scatter_braces 8
unfolding scatter_braces narrow
scatter-braces-short = short-through (short-pair {n = 2} {m = 6} (short-table bracing 2 refl) scale-alone-short) scatter-braces-matches

-- ---- the other parts

pub scalar-and-raws-short : Short scalar_and_raws 52
unfolding scalar_and_raws narrow single
scalar-and-raws-short =
    short-pair {n = 27} {m = 25} (short-after space 1 refl refl source-short) (λ _. short-pair {n = 13} {m = 12} (short-after space 1 refl refl raw-short) (λ _. raw-short))

pub surface-short : Short surface 5
unfolding surface decimal narrow single
surface-short = short-before (text "T|") 1 refl refl (short-after space 1 refl refl (short-number 10 0 255 2 (omega arith) refl))

pub message-short : Short message 17
unfolding message hexadecimal decimal narrow single
message-short =
    short-pair {n = 11} {m = 6} (short-before (text "0x|") 2 refl refl (short-after space 1 refl refl (short-number 16 0 4294967295 7 (omega arith) refl))) (λ _.
    short-pair {n = 3} {m = 3} (short-after space 1 refl refl (short-number 10 1 15 1 (omega arith) refl)) (λ _.
    short-after space 1 refl refl (short-number 10 0 16 1 (omega arith) refl)))
