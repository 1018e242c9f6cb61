-- "10 over all lanes; 11 over all; 12 over all", then the writes: what each test's answer leaves of the effect from the room.
use Rattle.std.proofs.Common.{◌≡◌, ℕ, Bool, true, false, List, [], sym, refl, ap, ◌∙◌}
use Rattle.refusal.specs.declared.Detail.{Detail}
use Rattle.refusal.specs.declared.Detail.TheVariants as detail
use Rattle.std.specs.Prelude.{Result, Ok, Err}
use Rattle.refusal.specs.declared.Refusal.{Refusal}
use Rattle.refusal.specs.declared.Refusal.TheVariants as refusal
use Rattle.cells.specs.declared.Buffer as lent
use Rattle.cells.specs.Buffer.{Buffer}
use Rattle.cells.specs.Lent.{held, Becomes}
use Rattle.cells.proofs.LentLaws.{becomes-is}
use Rattle.cells.specs.Writes.{written_all}
use Rattle.cells.specs.Effect.{Effect, refused, writing, MemoryDone}
use Rattle.cells.proofs.EffectLaws.{unless-refused, unless-passed, memory-refused, found-refused, none-passed, nothing_written}
use Rattle.staging.specs.declared.Layout.{Layout}
use Rattle.scatter_pairs.specs.declared.Rule.TheVariants as rule
use Rattle.scatter_pairs.specs.declared.Pairs.{Pairs}
use Rattle.scatter_effect.specs.Scatter.{Window}
use Rattle.scatter_pairs.specs.Mirror.Search.{first_breaking, some_tainted}
use Rattle.scatter_writes.specs.Mirror.Writes.{all_writes}
use Rattle.scatter.specs.Mirror.FromRoom.{room_effect}

-- a refusal's number, what it tells, and a memory that stays as it was
pub refusal-done : (e : Effect) (n : ℕ) (d : Detail) (b : Buffer) → e ≡ refused n d → (n ≡ e.number) × (d ≡ e.detail) × (b ≡ written_all e.memory b)
refusal-done e n d b is =
    (sym (ap (λ (x : Effect). x.number) is), sym (ap (λ (x : Effect). x.detail) is), sym (ap (λ (x : Effect). written_all x.memory b) is ∙ nothing_written b))

pub same-done : (e f : Effect) (r : Result (Unit {0}) Refusal) (b b' : lent.Buffer) → e ≡ f → MemoryDone e r b b' → MemoryDone f r b b'
same-done e f r b b' is a =
    (a.0 ∙ ap (λ (x : Effect). x.number) is, a.1 ∙ ap (λ (x : Effect). x.detail) is, becomes-is b b' _ _ (ap (λ (x : Effect). written_all x.memory (held b)) is) a.2)

module _ (w : Window) (l : Layout) (s : Pairs) (on : List Bool) (sums : List ℕ) (room : Buffer) (tainted : Bool) (t : tainted ≡ some_tainted room.taint l on) where
  pub tainted-done : (b : lent.Buffer) → tainted ≡ true → MemoryDone (room_effect w l s on sums room) (Err refusal.Doubtful) b b
  unfolding room_effect
  tainted-done b doubtful = memory-refused _ refusal.Doubtful b (unless-refused _ 10 _ _ (sym t ∙ doubtful))

  module _ (sure : tainted ≡ false) where
    pub misaligned-done : (b : lent.Buffer) (c lane : ℕ) → detail.Pair c lane ≡ first_breaking rule.Aligned s on sums → MemoryDone (room_effect w l s on sums room) (Err (refusal.Misaligned c lane)) b b
    unfolding room_effect
    misaligned-done b c lane odd =
        memory-refused _ (refusal.Misaligned c lane) b (unless-passed _ 10 _ _ (sym t ∙ sure) ∙ found-refused 11 _ c lane _ odd)

    module _ (even : detail.None ≡ first_breaking rule.Aligned s on sums) where
      pub outside-done : (b : lent.Buffer) (c lane : ℕ) → detail.Pair c lane ≡ first_breaking (rule.Inside w.base w.length) s on sums → MemoryDone (room_effect w l s on sums room) (Err (refusal.OutsideWindow c lane)) b b
      unfolding room_effect
      outside-done b c lane out =
          memory-refused _ (refusal.OutsideWindow c lane) b (unless-passed _ 10 _ _ (sym t ∙ sure) ∙ (none-passed 11 _ _ even ∙ found-refused 12 _ c lane _ out))

      pub pairs-done : (b b' : lent.Buffer) → detail.None ≡ first_breaking (rule.Inside w.base w.length) s on sums → Becomes b b' (written_all (all_writes w.base room s on sums) (held b)) → MemoryDone (room_effect w l s on sums room) (Ok tt) b b'
      unfolding room_effect
      pairs-done b b' inside made =
          same-done (writing [] (all_writes w.base room s on sums)) _ (Ok tt) b b' (sym (unless-passed _ 10 _ _ (sym t ∙ sure) ∙ (none-passed 11 _ _ even ∙ none-passed 12 _ _ inside))) (refl, refl, made)
