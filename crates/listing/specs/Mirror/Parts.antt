-- A listing in parts: what stands in the output buffer, and what is still to come.
use Rattle.std.specs.Prelude.{◌≡◌, ℕ, ◌≤◌, Bool, cond, not, ◌&&◌, ◌||◌, List, [], ◌++◌, eqb, length, take, drop}
use Rattle.hex_text.specs.Bytes.{is_hex, hex_bytes}
use Rattle.line_blocks.specs.Mirror.Rows.{Row, row}
use Rattle.line_blocks.specs.Mirror.TextOut.{text_out}
use Rattle.listing.specs.declared.State.{State}
use Rattle.listing.specs.Listing.{listed_from, refusal_line}

-- the characters of a line that was not too long are a kernel
unfoldable pub is_kernel_in : Bool → List ℕ → Bool
is_kernel_in long characters = not long && (eqb (length characters) 0 || is_hex characters)

-- the kernel; an empty one for a line that is none
unfoldable pub kernel_in : Bool → List ℕ → List ℕ
kernel_in long characters = cond (is_kernel_in long characters) (hex_bytes characters) []

-- what is put out for the line that stands in a buffer
unfoldable pub row_listed : Row → List ℕ
row_listed w = cond (is_kernel_in w.long (take w.used w.line)) (listed_from (hex_bytes (take w.used w.line)) 0) (refusal_line 14 0)

-- what the output buffer has, the lines of the kernel at hand that are still to come, and those of the rest of the text: of the block, and `later`
unfoldable pub whole : List ℕ → List ℕ → List ℕ → List ℕ → State → List ℕ → List ℕ
whole block line kernel out s later =
    take s.out out ++ (listed_from (take s.size kernel) s.at ++ text_out row_listed (row line s.begun.used s.begun.long) (drop s.place block ++ later))

-- a step of the program: what has been put out, with what is to come, stays the same whatever text comes later, and the output buffer has room for what is in it
pub record Goes (block line kernel out : List ℕ) (s : State) (line' kernel' out' : List ℕ) (r : State) : Type 0 where
  pub same : (later : List ℕ) → whole block line' kernel' out' r later ≡ whole block line kernel out s later
  pub inside : r.out ≤ length out'

-- a block is taken: what was put out for it, with what is to come for the line begun then, is what is to be put out for the block and whatever comes later
pub record Passes (block line : List ℕ) (used : ℕ) (long : Bool) (line' : List ℕ) (used' : ℕ) (long' : Bool) : Type 0 where
  pub written : List ℕ
  pub same : (later : List ℕ) → written ++ text_out row_listed (row line' used' long') later ≡ text_out row_listed (row line used long) (block ++ later)
