-- A scatter of a plan that does not fit, and of one that fits: the effect from the room is the effect of `Scatter`.
use Rattle.std.proofs.Common.{◌≡◌, ℕ, ◌≤◌, Bool, true, false, not, List, sym, ap, ◌∙◌}
use Rattle.refusal.specs.declared.Detail.TheVariants as detail
use Rattle.std.specs.Prelude.{Result, Err}
use Rattle.refusal.specs.declared.Refusal.{Refusal}
use Rattle.refusal.specs.declared.Refusal.TheVariants as refusal
use Rattle.cells.specs.declared.Buffer as lent
use Rattle.cells.specs.Buffer.{Buffer}
use Rattle.cells.specs.Effect.{refused, MemoryDone}
use Rattle.cells.proofs.EffectLaws.{unless-refused, unless-passed, memory-refused}
use Rattle.channels.specs.Mirror.Prepared.{lanes_of}
use Rattle.channels.specs.declared.Lanes.{Lanes}
use Rattle.plan.specs.Plan.{Plan}
use Rattle.staging.specs.Lanes.{lanes_on}
use Rattle.staging.specs.declared.Layout.{Layout}
use Rattle.scatter_pairs.specs.declared.Pairs.{Pairs}
use Rattle.scatter_effect.specs.Scatter.{Window, scatter_effect}
use Rattle.scatter.specs.Mirror.Guarded.{scatter_fits, scatter_guarded}
use Rattle.scatter.specs.Mirror.FromRoom.{layout_for, pairs_of, sources_staged, WorkedOut, room_effect}
use Rattle.scatter.proofs.OrderLaws.{same-done}
use Rattle.scatter.proofs.RoomLaws.{few, from-room-is}

module _ (w : Window) (mask : ℕ) (p : Plan) (registers : Buffer) where
  pub guard-refuses : scatter_fits p ≡ false → scatter_guarded w mask p registers ≡ refused 7 detail.None
  unfolding scatter_guarded
  guard-refuses e = unless-refused _ 7 _ _ (ap not e)

  -- the guard is not the reason of an answer
  pub guard-passes : scatter_fits p ≡ true → scatter_guarded w mask p registers ≡ scatter_effect w p (lanes_on mask p) registers
  unfolding scatter_guarded
  guard-passes e = unless-passed _ 7 _ _ (ap not e)

  pub scatter-refused : (fit : Bool) (b : lent.Buffer) → fit ≡ scatter_fits p → fit ≡ false → MemoryDone (scatter_guarded w mask p registers) (Err refusal.Outside) b b
  scatter-refused fit b f e = memory-refused _ refusal.Outside b (guard-refuses (sym f ∙ e))

  pub scatter-done : (fits : scatter_fits p ≡ true) (lanes : Lanes) (l : Layout) (s : Pairs) (on : List Bool) (sums : List ℕ) (room : Buffer) (b b' : lent.Buffer) (n : Result (Unit {0}) Refusal) → lanes ≡ lanes_of p.control.exec p.control.pred mask p.bits → l ≡ layout_for p → s ≡ pairs_of p → room ≡ sources_staged registers p → WorkedOut room.bytes l lanes on sums → MemoryDone (room_effect w l s on sums room) n b b' → MemoryDone (scatter_guarded w mask p registers) n b b'
  scatter-done fits lanes l s on sums room b b' n told layout pairs staged worked =
      let worked' : WorkedOut (sources_staged registers p).bytes (layout_for p) lanes on sums = rw (← staged, ← layout) worked in
      let whole : room_effect w l s on sums room ≡ scatter_effect w p (lanes_on mask p) registers = rw (staged, pairs, layout) (from-room-is p fits registers mask lanes told on sums worked' w) in
      same-done (room_effect w l s on sums room) (scatter_guarded w mask p registers) n b b' (whole ∙ sym (guard-passes fits))

-- what the code asks of the lanes
pub layout-few : (p : Plan) (l : Layout) → scatter_fits p ≡ true → l ≡ layout_for p → l.lanes ≤ 16
layout-few p l fits e = rw e (few p fits)
