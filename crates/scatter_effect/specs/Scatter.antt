-- What SVM SCATTER4_SCALED does. Document 01, "Which channels, which results" and "How marks move".
use Rattle.std.specs.Prelude.{ℕ, ◌+◌, ◌*◌, ◌-◌, ◌%◌, ◌^◌, Bool, not, ◌&&◌, List, [], get_or, leb, eqb}
use Rattle.refusal.specs.declared.Detail.{Detail}
use Rattle.refusal.specs.declared.Detail.TheVariants as detail
use Rattle.cells.specs.Buffer.{Buffer}
use Rattle.cells.specs.Writes.{Write, copy_writes}
use Rattle.cells.specs.Over.{among, each, some, first_pair}
use Rattle.cells.specs.Effect.{Effect, unless, unless_found, writing}
use Rattle.bits.specs.Bits.{bit}
use Rattle.plan.specs.Plan.{Plan}
use Rattle.payloads.specs.Needed.{enabled_below}
use Rattle.staging.specs.Sources.{element_value, either_tainted}

-- the memory window: its first address and its length
pub record Window : Type 0 where
  pub base : ℕ
  pub length : ℕ

-- the enabled channels, of 0 to 3
unfoldable pub channels_on : Plan → List ℕ
channels_on p = among (bit p.channels) 4

-- "Channel c of lane i goes to address + element offset + 4c modulo 2^64."
unfoldable pub target_address : ℕ → ℕ → ℕ → ℕ
target_address c address element = (address + element + 4 * c) % 2 ^ 64

unfoldable pub target : List ℕ → Plan → ℕ → ℕ → ℕ
target bytes p c lane = target_address c (element_value bytes p.left lane) (element_value bytes p.right lane)

-- "Its data are dword p·max(ExecSize, 8)+i of Src, p the number of enabled channels below c", with the plan's stride in the place of the max
-- (`channel_stride`; document 02, request 5): the register byte where they begin
unfoldable pub source_byte : Plan → ℕ → ℕ → ℕ
source_byte p c lane =
    get_or p.payload.at 0 0 + 4 * (enabled_below p.channels c * p.stride + lane)

-- 11: "scatter address not a multiple of 4"
unfoldable pub misaligned : ℕ → Bool
misaligned address = not (eqb (address % 4) 0)

-- 12: "its four bytes not all in the window"
unfoldable pub outside : Window → ℕ → Bool
outside w address = not (leb w.base address && leb (address + 4) (w.base + w.length))

-- "Scattered bytes carry their marks."
unfoldable pub scatter_pair : Window → Buffer → Plan → ℕ → ℕ → List Write
scatter_pair w registers p c lane = copy_writes registers (source_byte p c lane) (target registers.bytes p c lane - w.base) 4

-- "the first offending channel-and-lane pair ends the search": the first of the enabled pairs whose target fails a test
unfoldable pub first_offending : (ℕ → Bool) → Plan → List ℕ → List ℕ → Detail
first_offending fails p lanes bytes = first_pair (λ c i. fails (target bytes p c i)) (channels_on p) lanes

-- "10 over all lanes; 11 over all; 12 over all", of enabled lanes and pairs only; "11 and 12 now carry channel and lane of the first offending
-- pair" (document 02, request 2); then "c outer, i inner; the later write stays"
unfoldable pub scatter_effect : Window → Plan → List ℕ → Buffer → Effect
scatter_effect w p lanes registers =
    unless (some (λ i. either_tainted registers.taint p.left p.right i) lanes) 10 detail.None
    (unless_found 11 (first_offending misaligned p lanes registers.bytes)
    (unless_found 12 (first_offending (outside w) p lanes registers.bytes)
    (writing [] (each (λ c. each (λ i. scatter_pair w registers p c i) lanes) (channels_on p)))))
