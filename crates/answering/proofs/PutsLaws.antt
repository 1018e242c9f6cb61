-- A buffer of 32,813 bytes holds a text that was put to its start, all of it.
use mathlib.Core.Path.{◌≡◌, ap, ◌∙◌}
use mathlib.Core.List.{List}
use Prim.Native.Nat.{ℕ, ◌≤◌}
use native.Mathlib.Omega.{arith}
use lib.ListN.{length, take}
use Rattle.output.specs.Mirror.Page.{Page}
use Rattle.output.proofs.PageLaws.{written-room, written-whole}
use Rattle.answering.specs.Mirror.Puts.{Puts}

module _ (t out after : List ℕ) (used : ℕ) (room : 32813 ≤ length out) (p : Puts t out after used) where
  pub puts_whole : take used after ≡ t
  puts_whole = ap (λ (q : Page). take q.used q.buffer) p.same ∙ written-whole t out (omega (arith, room, p.small))

  pub puts-count : used ≡ length t
  puts-count = ap (λ (q : Page). q.used) p.same ∙ (ap (λ (q : Page). q.used) (written-room t out 0 (omega (arith, room, p.small))) ∙ omega arith)
