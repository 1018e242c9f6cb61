-- Which rule a region word breaks. Document 02, request 2: "Split it .. width 0 or 32, horizontal stride over 4, width over ExecSize, destination
-- stride zero, Null where none may stand or not Null where it must. The last alone judges Nulls and a destination's other two fields. .. 6
-- becomes 20 to 24 in the order just given, tested in that order within an operand; a scalar's region is judged by 25 alone".
use Rattle.std.specs.Prelude.{ℕ, zero, suc, ◌<◌, ◌≡◌, Bool, true, false, cond, not, ◌&&◌, ◌||◌, List, [], ◌∷◌, ltb, eqb}
use Rattle.region_rules.specs.declared.Role.{Role}
use Rattle.region_rules.specs.declared.Role.TheVariants as role
use Rattle.region_rules.specs.RegionWord.{vertical_code, width_code, horizontal_code, stride_of, between, scalar_region_good}

-- a code that stands for a number, so that it is not Null; decoding refuses those over 7
unfoldable pub is_number : ℕ → Bool
is_number code = between 1 7 code

-- a code that stands for this number; Null stands for none
unfoldable pub stands_for : ℕ → ℕ → Bool
stands_for number code = is_number code && eqb (stride_of code) number

-- 20: "width 0 or 32"
unfoldable pub width_zero_or_32 : Role → ℕ → ℕ → Bool
width_zero_or_32 role.Source region lanes = stands_for 0 (width_code region) || stands_for 32 (width_code region)
width_zero_or_32 role.Scalar region lanes = false
width_zero_or_32 role.Destination region lanes = false

-- 21: "horizontal stride over 4"
unfoldable pub stride_over_four : Role → ℕ → ℕ → Bool
stride_over_four role.Source region lanes = ltb 4 (stride_of (horizontal_code region))
stride_over_four role.Scalar region lanes = false
stride_over_four role.Destination region lanes = ltb 4 (stride_of (horizontal_code region))

-- 22: "width over ExecSize"
unfoldable pub width_over_exec_size : Role → ℕ → ℕ → Bool
width_over_exec_size role.Source region lanes = ltb lanes (stride_of (width_code region))
width_over_exec_size role.Scalar region lanes = false
width_over_exec_size role.Destination region lanes = false

-- 23: "destination stride zero"
unfoldable pub destination_stride_zero : Role → ℕ → ℕ → Bool
destination_stride_zero role.Source region lanes = false
destination_stride_zero role.Scalar region lanes = false
destination_stride_zero role.Destination region lanes = stands_for 0 (horizontal_code region)

-- 24: "Null where none may stand or not Null where it must"; none may stand in a source, and in a destination's H, and it must in the other two
unfoldable pub null_out_of_place : Role → ℕ → ℕ → Bool
null_out_of_place role.Source region lanes =
    not (is_number (vertical_code region)) || not (is_number (width_code region)) || not (is_number (horizontal_code region))
null_out_of_place role.Scalar region lanes = false
null_out_of_place role.Destination region lanes =
    not (eqb (vertical_code region) 0) || not (eqb (width_code region) 0) || not (is_number (horizontal_code region))

-- 25: "a scalar's region is judged by 25 alone": it is not <0;1,0>
unfoldable pub scalar_region_wrong : Role → ℕ → ℕ → Bool
scalar_region_wrong role.Source region lanes = false
scalar_region_wrong role.Scalar region lanes = not (scalar_region_good region)
scalar_region_wrong role.Destination region lanes = false

-- a rule's number, and whether an operand of a role with a region word and so many lanes breaks it
pub record RegionRule : Type 0 where
  pub number : ℕ
  pub broken : Role → ℕ → ℕ → Bool

abbrev rule : ℕ → (Role → ℕ → ℕ → Bool) → RegionRule
rule number broken = record { number = number; broken = broken }

-- "in the order just given"
abbrev pub region_rules : List RegionRule
region_rules =
    rule 20 width_zero_or_32
    ∷ rule 21 stride_over_four
    ∷ rule 22 width_over_exec_size
    ∷ rule 23 destination_stride_zero
    ∷ rule 24 null_out_of_place
    ∷ rule 25 scalar_region_wrong
    ∷ []

-- the number of the first of these rules that is broken, 0 if none is
unfoldable pub first_broken : List RegionRule → Role → ℕ → ℕ → ℕ
first_broken [] role region lanes = 0
first_broken (r ∷ rs) role region lanes = cond (r.broken role region lanes) r.number (first_broken rs role region lanes)

unfoldable pub region_refusal : Role → ℕ → ℕ → ℕ
region_refusal role region lanes = first_broken region_rules role region lanes

-- ---- the words of claims about them

module _ (role : Role) (region lanes : ℕ) where
  -- whether the rule at a place of a list, from 0, is broken
  unfoldable pub broken_at : List RegionRule → ℕ → Bool
  broken_at [] k = false
  broken_at (r ∷ rs) zero = r.broken role region lanes
  broken_at (r ∷ rs) (suc k) = broken_at rs k

  -- it is, and none before it
  pub record IsFirstBroken (rs : List RegionRule) (k : ℕ) : Type 0 where
    pub broken : broken_at rs k ≡ true
    pub before : (j : ℕ) → j < k → broken_at rs j ≡ false
