-- The bench as a whole: an input, cut into any blocks, fed from the start over empty buffers of document 01's sizes, finished and answered,
-- leaves the output that the input has by definition.
use mathlib.Core.Path.{◌≡◌, ap, ◌∙◌}
use mathlib.Core.List.{List, flatten}
use Prim.Native.Nat.{ℕ, ◌≤◌}
use lib.ListN.{length, take}
use Rattle.feeding.specs.Mirror.Feeding.{Machine, machine, fresh, fed, finished}
use Rattle.feeding.specs.Mirror.Text.{text_read}
use Rattle.feeding.proofs.FeedingLaws.{blocks_fed, blocks-fed}
use Rattle.feeding.proofs.TextLaws.{fed-text}
use Rattle.answering.specs.declared.Form.{Form}
use Rattle.answering.specs.Mirror.Puts.{Puts}
use Rattle.answering.specs.Mirror.Bench.{case_output, unread, bench_output}
use Rattle.answering.proofs.PutsLaws.{puts_whole}

-- with a line buffer of 16,386 bytes, whatever stands in it
abbrev pub begun : List ℕ → Machine
begun line = machine line fresh unread.contents unread.tables

module _ (f : Form) where
  pub text-output : (text line : List ℕ) → length line ≡ 16386 → case_output f (finished (fed text (begun line))).reading ≡ bench_output f text
  unfolding bench_output
  text-output text line h =
      ap (case_output f) (fed-text text line unread.contents unread.tables ∙ ap (λ (n : ℕ). text_read n text unread) h)

  pub blocks-answered : (blocks : List (List ℕ)) (line out after : List ℕ) (used : ℕ) → length line ≡ 16386 → 32813 ≤ length out →
      Puts (case_output f (finished (blocks_fed blocks (begun line))).reading) out after used → take used after ≡ bench_output f (flatten blocks)
  blocks-answered blocks line out after used h k e =
      puts_whole _ out after used k e
      ∙ (ap (λ (m : Machine). case_output f (finished m).reading) (blocks-fed blocks (begun line)) ∙ text-output (flatten blocks) line h)
