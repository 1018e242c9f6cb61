-- A plan that does not fit writes nothing, and one that fits has the effect of its definition.
use Rattle.std.proofs.Common.{◌≡◌, ℕ, Bool, true, false, not, ◌&&◌, sym, refl, ap, ◌∙◌}
use borrow.Author.Tests.{not-true, not-false}
use Rattle.little_endian.specs.LittleEndian.{Bytes}
use Rattle.cells.specs.declared.Buffer as lent
use Rattle.cells.specs.Buffer.{Buffer}
use Rattle.cells.specs.Lent.{held, Becomes}
use Rattle.cells.specs.Writes.{written_all}
use Rattle.cells.specs.Over.{among, each}
use Rattle.std.specs.Prelude.{Ok, Err}
use Rattle.refusal.specs.declared.Detail.TheVariants as detail
use Rattle.refusal.specs.declared.Refusal.TheVariants as refusal
use Rattle.cells.specs.Effect.{refused, RegistersDone}
use Rattle.cells.proofs.EffectLaws.{unless-refused, unless-passed, registers-refused}
use Rattle.cells.proofs.LaneLaws.{lanes-alike}
use Rattle.exec_byte.specs.Exec.{exec_size, exec_of}
use Rattle.exec_byte.specs.declared.Exec.{Exec}
use Rattle.channels.specs.Lanes.{lane_on}
use Rattle.channels.specs.declared.Lanes.{Lanes}
use Rattle.channels.specs.Mirror.Prepared.{lanes_of, is_on}
use Rattle.plan.specs.Plan.{Plan}
use Rattle.staging.specs.Lanes.{lanes_on}
use Rattle.staging.specs.Mirror.Room.{elements_fit, both_staged}
use Rattle.staging.proofs.LanesOnLaws.{lanes-on-are, prepared-lanes-are}
use Rattle.gather.specs.declared.Shape.{Shape}
use Rattle.gather_effect.specs.Gather.{gather_lane, gather_effect}
use Rattle.gather_effect.proofs.Refusal.{gather-number, gather-detail}
use Rattle.gather.specs.Mirror.Guarded.{gather_fits, gather_guarded}
use Rattle.gather.specs.Mirror.FromRoom.{shape_of, room_lane}
use Rattle.gather.proofs.RoomLaws.{room-lane-is}

-- the test as code asks it
pub fits_told : (p : Plan) (exec : Exec) (l r : Bool) → exec ≡ exec_of p.control.exec → l ≡ elements_fit 4 p.left exec.size → r ≡ elements_fit 4 p.right exec.size → (l && r) ≡ gather_fits p
unfolding gather_fits
fits_told p exec l r e f g = rw (f, g, e)

module _ (mask : ℕ) (p : Plan) (b surfaces : Buffer) where
  pub guard-refuses : gather_fits p ≡ false → gather_guarded mask p b surfaces ≡ refused 7 detail.None
  unfolding gather_guarded
  guard-refuses e = unless-refused _ 7 _ _ (ap not e)

  -- the guard is not the reason of an answer
  pub guard-passes : gather_fits p ≡ true → gather_guarded mask p b surfaces ≡ gather_effect p (lanes_on mask p) b surfaces
  unfolding gather_guarded
  guard-passes e = unless-passed _ 7 _ _ (ap not e)

  abbrev room : Buffer
  room = both_staged b p.left p.right (exec_size p.control.exec)

  same_writes : Bytes surfaces.bytes → gather_fits p ≡ true → each (room_lane room surfaces (shape_of p) p.payload.at) (lanes_on mask p) ≡ each (gather_lane b surfaces p) (lanes_on mask p)
  same_writes bytes fit =
      rw (lanes-on-are mask p)
      (lanes-alike (room_lane room surfaces (shape_of p) p.payload.at) (gather_lane b surfaces p) (lane_on p.control.exec p.control.pred mask p.bits) (exec_size p.control.exec) (λ lane h on. room-lane-is p fit b surfaces bytes lane h))

  effect_writes : (gather_effect p (lanes_on mask p) b surfaces).registers ≡ each (gather_lane b surfaces p) (lanes_on mask p)
  unfolding gather_effect
  effect_writes = refl

-- what the code does with the registers that it is lent
module _ (mask : ℕ) (p : Plan) (b : lent.Buffer) (surfaces : Buffer) where
  pub gather-refused : (fit : Bool) → fit ≡ gather_fits p → not fit ≡ true → RegistersDone (gather_guarded mask p (held b) surfaces) (Err refusal.Outside) b b
  gather-refused fit f e = registers-refused _ refusal.Outside b (guard-refuses mask p (held b) surfaces (sym f ∙ not-true fit e))

  -- all lanes, as the code worked them out: with the plan's shape and lanes, from the room
  pub gather-done : Bytes surfaces.bytes → (fit : Bool) (s : Shape) (lanes : Lanes) (seen staged : Buffer) (b' : lent.Buffer) → fit ≡ gather_fits p → not fit ≡ false → s ≡ shape_of p → lanes ≡ lanes_of p.control.exec p.control.pred mask p.bits → seen ≡ held b → staged ≡ both_staged seen p.left p.right s.layout.lanes → Becomes b b' (written_all (each (room_lane staged surfaces s p.payload.at) (among (is_on lanes) s.layout.lanes)) (held b)) → RegistersDone (gather_guarded mask p (held b) surfaces) (Ok tt) b b'
  gather-done bytes fit s lanes seen staged b' f e shaped prepared same there made =
      let fits = sym f ∙ not-false fit e in
      let g = guard-passes mask p (held b) surfaces fits in
      (rw (g, gather-number p (lanes_on mask p) (held b) surfaces), rw (g, gather-detail p (lanes_on mask p) (held b) surfaces), rw (g, effect_writes mask p (held b) surfaces, ← same_writes mask p (held b) surfaces bytes fits, ← prepared-lanes-are mask p) (rw (there, same, shaped, prepared) at made))
