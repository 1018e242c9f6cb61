-- One variable of the table.
use Rattle.std.specs.Prelude.{ℕ, Bool, cond, ltb, length, get_or, Result, Ok, Err}
use Rattle.refusal.specs.declared.OperandRefusal.{OperandRefusal}
use Rattle.refusal.specs.declared.OperandRefusal.TheVariants as operand
use Rattle.tables.specs.Variables.{Variables}
use Rattle.regions.specs.declared.Variable.{Variable}

-- refusal 5 where this is false: "variable .. not in its table"
unfoldable pub in_table : Variables → ℕ → Bool
in_table t index = ltb index (length t.types)

unfoldable pub variable_at : Variables → ℕ → Variable
variable_at t index =
    record { code = get_or t.types index 0; start = get_or t.starts index 0; count = get_or t.counts index 0 }

-- a variable looked up, as the code does it: `variable_at` where it is in the table
abbrev pub variable_found : Variables → ℕ → Result Variable OperandRefusal
variable_found t index = cond (in_table t index) (Ok (variable_at t index)) (Err operand.Missing)
