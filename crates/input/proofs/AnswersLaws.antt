-- What a read's answer says.
use Rattle.std.proofs.Common.{◌≡◌, refl, ℕ, zero, suc, ◌≤◌, arith, Result, Ok, Err}
use Rattle.std.specs.declared.io.Error.{Error}
use Rattle.input.specs.declared.Answer.TheVariants.{Bytes, End}
use Rattle.input.specs.Answers.{answer_of}
use Rattle.input.specs.Calls.{Moved}

-- only 0 says that the input has ended
pub end-zero : (r : Result ℕ Error) → answer_of r ≡ End → r ≡ Ok 0
unfolding answer_of
end-zero (Ok zero) e = refl
end-zero (Ok (suc n)) e = cc
end-zero (Err x) e = cc

-- a count is not above the block's length
pub count-inside : (r : Result ℕ Error) (n room : ℕ) → Bytes n ≡ answer_of r → Moved room r → n ≤ room
unfolding answer_of
count-inside (Ok zero) n room e m = cc
count-inside (Ok (suc k)) n room e m = let same : n ≡ suc k = cc in omega (arith, same, m)
count-inside (Err x) n room e m = cc
