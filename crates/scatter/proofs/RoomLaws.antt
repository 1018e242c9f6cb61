-- The effect worked out from the room, and from each lane's sum, is the effect of `Scatter`, whose sources stand in the registers.
use Rattle.std.proofs.Common.{◌≡◌, ℕ, ◌+◌, ◌-◌, ◌*◌, ◌%◌, ◌^◌, ◌<◌, ◌≤◌, Bool, true, false, ◌&&◌, leb, List, get_or, sym, ap, ◌∙◌, ap₂, arith, leb-true}
use Rattle.refusal.specs.declared.Detail.{Detail}
use Rattle.cells.specs.Buffer.{Buffer}
use Rattle.cells.specs.Writes.{copy_writes}
use Rattle.cells.specs.Over.{each, some, first_pair}
use Rattle.cells.proofs.CopyLaws.{Copied}
use Rattle.cells.proofs.LaneLaws.{lanes-alike}
use Rattle.cells.proofs.SearchLaws.{some_alike}
use Rattle.cells.proofs.FirstLaws.{pairs-alike}
use Rattle.bits.specs.Bits.{bit}
use Rattle.exec_byte.specs.Exec.{exec_size}
use Rattle.channels.specs.Lanes.{lane_on}
use Rattle.channels.specs.Mirror.Prepared.{lanes_of}
use Rattle.channels.specs.declared.Lanes.{Lanes}
use Rattle.channels.proofs.LaneLaws.{lane-told}
use Rattle.plan.specs.Plan.{Plan}
use Rattle.payloads.specs.Needed.{enabled_below, scatter_needed}
use Rattle.staging.specs.Lanes.{lanes_on}
use Rattle.staging.specs.Sources.{element_value, either_tainted}
use Rattle.staging.specs.Mirror.Room.{data_place, either_staged, elements_fit}
use Rattle.cells.proofs.BoolLaws.{both_true}
use Rattle.staging.proofs.FitLaws.{fit-size, fit-bytes}
use Rattle.staging.proofs.LanesOnLaws.{lanes-on-are}
use Rattle.staging.proofs.RoomLaws.{data-first, data-second, data-either, data-copied}
use Rattle.scatter_pairs.specs.declared.Rule.{Rule}
use Rattle.scatter_pairs.specs.declared.Rule.TheVariants as rule
use Rattle.scatter_effect.specs.Scatter.{Window, channels_on, target, source_byte, misaligned, scatter_pair, first_offending, scatter_effect}
use Rattle.scatter.specs.Mirror.Guarded.{scatter_fits}
use Rattle.scatter_pairs.specs.Mirror.Rules.{breaks}
use Rattle.scatter_pairs.specs.Mirror.Search.{enabled_lanes, target_from, first_breaking, some_tainted}
use Rattle.scatter_writes.specs.Mirror.Writes.{row_place, pair_writes, row_writes, all_writes}
use Rattle.scatter.specs.Mirror.FromRoom.{layout_for, pairs_of, sources_staged, lane_sum, WorkedOut, room_effect}
use Rattle.scatter_effect.proofs.AmongAlike.{among-alike}
use Rattle.scatter_effect.proofs.EffectOrder.{tested, scatter-in-order}
use Rattle.scatter.proofs.NeededLaws.{dword-needed, needed-at-most}
use Rattle.scatter.proofs.SameWrites.{same_writes}
use Rattle.scatter.proofs.TargetLaws.{wrapped-twice}

module _ (p : Plan) (fit : scatter_fits p ≡ true) where
  abbrev count : ℕ
  count = exec_size p.control.exec

  parts : ((leb count 16 && leb p.stride 16) ≡ true) × ((elements_fit 8 p.left count && elements_fit 8 p.right count) ≡ true)
  unfolding scatter_fits
  parts = both_true (leb count 16 && leb p.stride 16) (elements_fit 8 p.left count && elements_fit 8 p.right count) fit

  pub few : count ≤ 16
  few = leb-true count 16 (both_true (leb count 16) (leb p.stride 16) parts.0).0

  near : p.stride ≤ 16
  near = leb-true p.stride 16 (both_true (leb count 16) (leb p.stride 16) parts.0).1

  elements : (elements_fit 8 p.left count ≡ true) × (elements_fit 8 p.right count ≡ true)
  elements = both_true (elements_fit 8 p.left count) (elements_fit 8 p.right count) parts.1

  -- 16 lanes of 8 bytes, twice, and 64 dwords
  room-enough : data_place (layout_for p) + scatter_needed p.stride p.control.exec p.channels ≤ 512
  unfolding data_place
  room-enough =
      omega (
        arith,
        fit-bytes p.left 8 count 16 few (fit-size 8 p.left count elements.0),
        fit-bytes p.right 8 count 16 few (fit-size 8 p.right count elements.1),
        needed-at-most p.channels p.stride p.control.exec near few,
      )

  module _ (registers : Buffer) where
    abbrev room : Buffer
    room = sources_staged registers p

    abbrev from : ℕ
    from = get_or p.payload.at 0 0

    abbrev needed : ℕ
    needed = scatter_needed p.stride p.control.exec p.channels

    same_sum : (k : ℕ) → k < count → lane_sum room.bytes (layout_for p) k ≡ (element_value registers.bytes p.left k + element_value registers.bytes p.right k) % 2 ^ 64
    unfolding lane_sum sources_staged
    same_sum k h =
        ap₂ (λ (x y : ℕ). (x + y) % 2 ^ 64)
        (data-first registers p.left p.right 8 count (omega arith) elements.0 elements.1 from needed k h)
        (data-second registers p.left p.right 8 count (omega arith) elements.0 elements.1 from needed k h)

    same-tainted : (k : ℕ) → k < count → either_staged room.taint (layout_for p) k ≡ either_tainted registers.taint p.left p.right k
    unfolding sources_staged
    same-tainted k h = data-either registers p.left p.right 8 count (omega arith) elements.0 elements.1 from needed k h

    -- a dword of an enabled channel is in the room
    dword-copied : (c lane k : ℕ) → c < 4 → bit p.channels c ≡ true → lane < count → k < 4 → Copied registers (source_byte p c lane) room (row_place (pairs_of p) c + 4 * lane) k
    unfolding source_byte row_place sources_staged
    dword-copied c lane k h on g l =
        let d = 4 * (enabled_below p.channels c * p.stride) + 4 * lane + k in
        let e = data-copied registers p.left p.right 8 count (omega arith) elements.0 elements.1 from needed room-enough d (dword-needed p.channels p.stride p.control.exec c lane k h on g l) in
        let t : data_place (layout_for p) + 4 * (enabled_below p.channels c * p.stride) + 4 * lane + k ≡ data_place (layout_for p) + d = omega arith in
        let f : from + 4 * (enabled_below p.channels c * p.stride + lane) + k ≡ from + d = omega arith in
        record { byte = rw (t, f) e.byte; taint = rw (t, f) e.taint }

    module _ (mask : ℕ) (lanes : Lanes) (told : lanes ≡ lanes_of p.control.exec p.control.pred mask p.bits) (on : List Bool) (sums : List ℕ) (worked : WorkedOut room.bytes (layout_for p) lanes on sums) where
      same-lanes : enabled_lanes on count ≡ lanes_on mask p
      unfolding enabled_lanes
      same-lanes =
          among-alike (λ k. get_or on k false) (lane_on p.control.exec p.control.pred mask p.bits) count
          (λ k h. lane-told p.control.exec p.control.pred mask p.bits k lanes (get_or on k false) told (worked.lane-on k h))
          ∙ sym (lanes-on-are mask p)

      same_target : (c k : ℕ) → k < count → target_from (get_or sums k 0) c ≡ target registers.bytes p c k
      unfolding target
      same_target c k h =
          ap (λ (s : ℕ). target_from s c) (worked.lane-sum k h ∙ same_sum k h)
          ∙ wrapped-twice (element_value registers.bytes p.left k) (element_value registers.bytes p.right k) c

      same-pair : (w : Window) (c lane : ℕ) → c < 4 → bit p.channels c ≡ true → lane < count → pair_writes w.base room (row_place (pairs_of p) c) (get_or sums lane 0) c lane ≡ scatter_pair w registers p c lane
      unfolding pair_writes scatter_pair
      same-pair w c lane h on' g =
          same_writes room registers (row_place (pairs_of p) c + 4 * lane) (source_byte p c lane) _ 4 (λ k l. dword-copied c lane k h on' g l)
          ∙ ap (λ (a : ℕ). copy_writes registers (source_byte p c lane) (a - w.base) 4) (same_target c lane g)

      -- over the enabled lanes and channels
      same_some : (f g : ℕ → Bool) → ((k : ℕ) → k < count → f k ≡ g k) → some f (enabled_lanes on count) ≡ some g (enabled_lanes on count)
      unfolding enabled_lanes
      same_some f g same = some_alike f g (λ k. get_or on k false) count (λ k h _. same k h)

      some_lanes : (f g : ℕ → Bool) → ((k : ℕ) → k < count → f k ≡ g k) → some f (enabled_lanes on count) ≡ some g (lanes_on mask p)
      some_lanes f g same = same_some f g same ∙ ap (some g) same-lanes

      tainted-alike : some_tainted room.taint (layout_for p) on ≡ some (λ i. either_tainted registers.taint p.left p.right i) (lanes_on mask p)
      unfolding some_tainted
      tainted-alike = some_lanes _ _ same-tainted

      same-pairs : (r : Rule) → first_pair (λ c i. breaks r (target_from (get_or sums i 0) c)) (channels_on p) (enabled_lanes on count) ≡ first_pair (λ c i. breaks r (target registers.bytes p c i)) (channels_on p) (enabled_lanes on count)
      unfolding enabled_lanes
      same-pairs r = pairs-alike (λ k. get_or on k false) _ _ (channels_on p) count (λ c k h. ap (breaks r) (same_target c k h))

      breaks-alike : (r : Rule) → first_breaking r (pairs_of p) on sums ≡ first_offending (breaks r) p (lanes_on mask p) registers.bytes
      unfolding first_breaking first_offending channels_on
      breaks-alike r = same-pairs r ∙ ap (first_pair (λ c i. breaks r (target registers.bytes p c i)) (channels_on p)) same-lanes

      same-each : (w : Window) (c : ℕ) → c < 4 → bit p.channels c ≡ true → each (λ i. pair_writes w.base room (row_place (pairs_of p) c) (get_or sums i 0) c i) (enabled_lanes on count) ≡ each (λ i. scatter_pair w registers p c i) (enabled_lanes on count)
      unfolding enabled_lanes
      same-each w c h on' = lanes-alike _ _ (λ k. get_or on k false) count (λ k g _. same-pair w c k h on' g)

      row-writes-alike : (w : Window) (c : ℕ) → c < 4 → bit p.channels c ≡ true → row_writes w.base room (row_place (pairs_of p) c) on sums count c ≡ each (λ i. scatter_pair w registers p c i) (lanes_on mask p)
      unfolding row_writes
      row-writes-alike w c h on' = same-each w c h on' ∙ ap (each (λ i. scatter_pair w registers p c i)) same-lanes

      writes-alike : (w : Window) → all_writes w.base room (pairs_of p) on sums ≡ each (λ c. each (λ i. scatter_pair w registers p c i) (lanes_on mask p)) (channels_on p)
      unfolding all_writes channels_on
      writes-alike w = lanes-alike _ _ (bit p.channels) 4 (λ c h on'. row-writes-alike w c h on')

      pub from-room-is : (w : Window) → room_effect w (layout_for p) (pairs_of p) on sums room ≡ scatter_effect w p (lanes_on mask p) registers
      unfolding room_effect breaks
      from-room-is w =
          ap₂ (λ (t : Bool) (o : Detail). tested t o (first_breaking (rule.Inside w.base w.length) (pairs_of p) on sums) (all_writes w.base room (pairs_of p) on sums)) tainted-alike (breaks-alike rule.Aligned)
          ∙ (ap₂ (tested (some (λ i. either_tainted registers.taint p.left p.right i) (lanes_on mask p)) (first_offending misaligned p (lanes_on mask p) registers.bytes)) (breaks-alike (rule.Inside w.base w.length)) (writes-alike w)
          ∙ sym (scatter-in-order w p (lanes_on mask p) registers))
