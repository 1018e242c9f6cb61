-- How long the text of each part is at most.
use mathlib.Core.Path.{refl}
use mathlib.Core.Bool.{◌&&◌}
use Prim.Native.Nat.{ℕ}
use native.Mathlib.Omega.{arith}
use lib.Dec.{eqb}
use Rattle.formats.specs.Text.{text}
use Rattle.formats.proofs.TableTests.{single}
use Rattle.formats.proofs.ShortLaws.{Short, short-pair, short-through, short-blank, short-cond, narrow, short-table, short-number, short-before}
use Rattle.control_texts.specs.Mirror.Predicate.{zeros, openings, endings, group_endings, ending, id_and_ending, predicate}
use Rattle.control_texts.specs.Mirror.Exec.{mask_endings, sizes, scatter_sizes, mask_parts, mask, exec_from, exec, scatter_exec}
use Rattle.control_texts.proofs.PredicateLaws.{predicate-matches}
use Rattle.control_texts.proofs.ExecLaws.{mask-matches, exec-matches, scatter-exec-matches}

-- ---- the predicate: `(!P4095.any) `

ending-short : (k n : ℕ) → Short (ending k n) 6
unfolding ending narrow
ending-short k n = short-cond (eqb k 1 && eqb n 0) (short-table group_endings 6 refl) (short-table endings 6 refl)

id-and-ending-short : (k : ℕ) → Short (id_and_ending k) 10
unfolding id_and_ending
id-and-ending-short k = short-cond (eqb k 0) (short-blank (0, 0) zeros 10) (short-pair {n = 4} {m = 6} (short-number 10 0 4095 3 (omega arith) refl) (ending-short k))

pub predicate-short : Short predicate 13
unfolding predicate narrow
predicate-short = short-through (short-pair {n = 3} {m = 10} (short-table openings 3 refl) id-and-ending-short) predicate-matches

-- ---- the exec byte: `(M8_NM,32) `

mask-short : Short mask 7
unfolding mask mask_parts narrow single
mask-short = short-through (short-before (text "(M|") 2 refl refl (short-pair {n = 1} {m = 4} (short-number 10 1 8 0 (omega arith) refl) (λ _. short-table mask_endings 4 refl))) mask-matches

pub exec-short : Short exec 11
unfolding exec exec_from narrow
exec-short = short-through (short-pair {n = 7} {m = 4} mask-short (λ _. short-table sizes 4 refl)) exec-matches

pub scatter-exec-short : Short scatter_exec 11
unfolding scatter_exec exec_from narrow
scatter-exec-short = short-through (short-pair {n = 7} {m = 4} mask-short (λ _. short-table scatter_sizes 4 refl)) scatter-exec-matches
