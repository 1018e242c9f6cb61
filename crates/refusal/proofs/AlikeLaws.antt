-- A refusal is its number and what goes with it: where both are equal, so are the refusals.
use Rattle.std.proofs.Common.{◌≡◌, ℕ, refl, sym, ap, ◌∙◌, cond, eqb}
use lib.ListN.{get_or}
use Rattle.refusal.specs.declared.Detail.{Detail}
use Rattle.refusal.specs.declared.RegionRule.{RegionRule}
use Rattle.refusal.specs.declared.RegionRule.TheVariants as rule
use Rattle.refusal.specs.declared.Refusal.{Refusal}
use Rattle.refusal.specs.declared.Refusal.TheVariants as refusal
use Rattle.refusal.specs.Details.{values_of}
use Rattle.refusal.specs.Numbers.{number_of, detail_of}

rule_numbered : ℕ → RegionRule
rule_numbered n =
    cond (eqb n 20) rule.Width (cond (eqb n 21) rule.Stride (cond (eqb n 22) rule.WidthOverSize (cond (eqb n 23) rule.ZeroStride (cond (eqb n 24) rule.Null rule.Scalar))))

first : Detail → ℕ
first d = get_or (values_of d) 0 0

-- the refusal of a number, with what goes with it
refusal_numbered : ℕ → Detail → Refusal
refusal_numbered n d =
    cond (eqb n 1) refusal.Ends (cond (eqb n 2) refusal.Opcode (cond (eqb n 3) refusal.Reserved (cond (eqb n 4) refusal.Unfit (cond (eqb n 5) refusal.Missing
    (cond (eqb n 7) refusal.Outside (cond (eqb n 8) refusal.Lanes (cond (eqb n 9) refusal.Send (cond (eqb n 10) refusal.Doubtful
    (cond (eqb n 11) (refusal.Misaligned (first d) (get_or (values_of d) 1 0)) (cond (eqb n 12) (refusal.OutsideWindow (first d) (get_or (values_of d) 1 0))
    (cond (eqb n 13) refusal.Tables (cond (eqb n 15) refusal.Room (cond (eqb n 17) refusal.Predicate (refusal.Region (rule_numbered n) (first d)))))))))))))))

numbered : (r : Refusal) → refusal_numbered (number_of r) (detail_of r) ≡ r
unfolding refusal_numbered rule_numbered first values_of
numbered refusal.Ends = refl
numbered refusal.Opcode = refl
numbered refusal.Reserved = refl
numbered refusal.Unfit = refl
numbered refusal.Missing = refl
numbered refusal.Outside = refl
numbered refusal.Lanes = refl
numbered refusal.Send = refl
numbered refusal.Doubtful = refl
numbered (refusal.Misaligned channel lane) = refl
numbered (refusal.OutsideWindow channel lane) = refl
numbered refusal.Tables = refl
numbered refusal.Room = refl
numbered refusal.Predicate = refl
numbered (refusal.Region rule.Width place) = refl
numbered (refusal.Region rule.Stride place) = refl
numbered (refusal.Region rule.WidthOverSize place) = refl
numbered (refusal.Region rule.ZeroStride place) = refl
numbered (refusal.Region rule.Null place) = refl
numbered (refusal.Region rule.Scalar place) = refl

pub refusals_alike : (r s : Refusal) → number_of r ≡ number_of s → detail_of r ≡ detail_of s → r ≡ s
refusals_alike r s n d =
    sym (numbered r) ∙ (ap (λ (k : ℕ). refusal_numbered k (detail_of r)) n ∙ (ap (λ (x : Detail). refusal_numbered (number_of s) x) d ∙ numbered s))
