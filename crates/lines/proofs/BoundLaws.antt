-- The bounds of what was read, by which the code's sums and casts fit.
use mathlib.Core.Path.{◌≡◌, refl, sym, ap, ◌∙◌, subst}
use mathlib.Core.List.{List}
use Prim.Native.Nat.{ℕ, ◌≤◌, ◌<◌}
use native.Mathlib.Omega.{arith}
use lib.ListN.{drop}
use Rattle.std.specs.Prelude.{Result, Ok, Err}
use Rattle.formats.specs.Words.{words, one_of}
use Rattle.formats.specs.Told.{told}
use Rattle.formats.specs.declared.Cursor.{Cursor}
use Rattle.formats.specs.declared.Stop.{Stop}
use Rattle.formats.proofs.Agree.{common-right}
use Rattle.formats.proofs.Law.{Got, Stopped, Right, free}
use Rattle.formats.proofs.TableTests.{sound, size}
use Rattle.formats.proofs.AnswerLaws.{word-under}
use Rattle.decoder.specs.declared.Instruction.{Instruction}
use Rattle.lines.specs.Mirror.Bodies.{letters}
use Rattle.lines.specs.Mirror.Line.{line}
use Rattle.line_parts.proofs.EndLaws.{goes_on}
use Rattle.lines.proofs.LineLaws.{line-lawful}
use Rattle.lines.proofs.LengthLaws.{line-short}

-- ---- the number of a word of letters

pub letters-bound : (s : List ℕ) (at : ℕ) (r : Result (ℕ × Cursor) Stop) (x : ℕ × Cursor) → told r ≡ (one_of (words letters)).read s at → r ≡ Ok x → x.0 < 15
unfolding sound size
letters-bound = word-under letters free refl

-- ---- positions: no line is longer than 128, so reading ends or stops by there

pub end-bound : (s : List ℕ) (r : Result (Instruction × Cursor) Stop) (x : Instruction × Cursor) → told r ≡ line.read s 0 → r ≡ Ok x → x.1.at ≤ 128
end-bound s r x e g =
    let h : Got line goes_on s 0 x.0 x.1.at = subst (Right line goes_on s 0) (sym e ∙ ap told g) (line-lawful.right s 0) in
    omega (arith, h.end, line-short.most x.0 h.fine)

pub stop-bound : (s : List ℕ) (r : Result (Instruction × Cursor) Stop) (k : Stop) → told r ≡ line.read s 0 → r ≡ Err k → k.at ≤ 128
stop-bound s r k e g =
    let h : Stopped line goes_on s 0 k.at = subst (Right line goes_on s 0) (sym e ∙ ap told g) (line-lawful.right s 0) in
    omega (arith, h.reach, common-right (drop 0 s) (line.print h.most), line-short.most h.most h.fine)

pub ruleset end_bounds = (end-bound, stop-bound)
