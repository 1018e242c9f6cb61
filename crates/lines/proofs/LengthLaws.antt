-- How long a line is at most.
use mathlib.Core.Path.{refl}
use Prim.Native.Nat.{ℕ}
use lib.Dec.{eqb}
use Rattle.formats.proofs.TableTests.{single}
use Rattle.formats.proofs.ShortLaws.{Short, short-more, short-pair, short-through, short-cond, narrow, short-table, short-after}
use Rattle.control_texts.proofs.LengthLaws.{predicate-short, exec-short, scatter-exec-short}
use Rattle.line_parts.specs.Mirror.Parts.{space, blocks, send_endings}
use Rattle.lines.specs.Mirror.Bodies.{shl_parts, shl, gather_parts, gather, letters, scatter_parts, scatter, raw_send_parts, raw_send}
use Rattle.lines.specs.Mirror.Line.{names, body, named, line}
use Rattle.operand_texts.proofs.LengthLaws.{source-short, destination-short}
use Rattle.lines.proofs.BodiesLaws.{shl-matches, gather-matches, scatter-matches, raw-send-matches}
use Rattle.lines.proofs.LineLaws.{line-matches}
use Rattle.line_parts.proofs.LengthLaws.{gather-braces-short, scatter-braces-short, scalar-and-raws-short, surface-short, message-short}

-- ---- what stands behind each name; SHL is the longest

shl-short : (pred : ℕ) → Short (shl pred) 90
unfolding shl shl_parts narrow single
shl-short pred =
    short-through
    (short-pair {n = 11} {m = 79} exec-short (λ _.
    short-pair {n = 26} {m = 53} (short-after space 1 refl refl destination-short) (λ _.
    short-pair {n = 27} {m = 26} (short-after space 1 refl refl source-short) (λ _. source-short))))
    (shl-matches pred)

gather-short : (pred : ℕ) → Short (gather pred) 82
unfolding gather gather_parts narrow
gather-short pred =
    short-through
    (short-pair {n = 2} {m = 80} (short-table blocks 2 refl) (λ _.
    short-pair {n = 11} {m = 69} exec-short (λ _.
    short-pair {n = 5} {m = 64} surface-short (λ _.
    short-pair {n = 52} {m = 12} scalar-and-raws-short (λ _. gather-braces-short)))))
    (gather-matches pred)

scatter-short : (pred : ℕ) → Short (scatter pred) 76
unfolding scatter scatter_parts narrow
scatter-short pred =
    short-through
    (short-pair {n = 5} {m = 71} (short-table letters 5 refl) (λ _.
    short-pair {n = 11} {m = 60} scatter-exec-short (λ _.
    short-pair {n = 52} {m = 8} scalar-and-raws-short (λ _. scatter-braces-short))))
    (scatter-matches pred)

raw-send-short : (pred : ℕ) → Short (raw_send pred) 82
unfolding raw_send raw_send_parts narrow
raw-send-short pred =
    short-through
    (short-pair {n = 2} {m = 80} (short-table send_endings 2 refl) (λ _.
    short-pair {n = 11} {m = 69} exec-short (λ _.
    short-pair {n = 17} {m = 52} message-short (λ _. scalar-and-raws-short))))
    (raw-send-matches pred)

-- ---- the line

body-short : (pred name : ℕ) → Short (body pred name) 90
unfolding body
body-short pred name =
    short-cond (eqb name 0) (shl-short pred)
    (short-cond (eqb name 1) (short-more 82 90 refl (gather-short pred)) (short-cond (eqb name 2) (short-more 76 90 refl (scatter-short pred)) (short-more 82 90 refl (raw-send-short pred))))

pub line-below : Short line 123
unfolding line named narrow
line-below = short-through (short-pair {n = 13} {m = 110} predicate-short (λ pred. short-pair {n = 20} {m = 90} (short-table names 20 refl) (body-short pred))) line-matches

-- a round number that is enough
pub line-short : Short line 128
line-short = short-more 123 128 refl line-below
