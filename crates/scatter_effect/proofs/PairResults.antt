-- What SVM SCATTER4_SCALED leaves, where it is not refused: every enabled pair's four bytes hold its data with their marks, but for those that a
-- later pair writes, and no other byte of the memory changes, nor its mark.
use Prim.Native.Nat.{ℕ, ◌+◌, ◌-◌, ◌≤◌, ◌<◌}
use mathlib.Core.Path.{◌≡◌, refl, sym, ap, ◌∙◌}
use mathlib.Core.Logic.{inl, inr}
use mathlib.Core.Bool.{Bool, false}
use mathlib.Core.List.{List}
use native.Mathlib.Omega.{arith}
use lib.Dec.{leb}
use lib.ListN.{length, get_or}
use borrow.Author.Tests.{leb-true, not-false}
use Rattle.scatter_effect.specs.Results.{EnabledPair, Later, PairsHold, place}
use Rattle.refusal.specs.Details.{is_some}
use Rattle.cells.specs.Buffer.{Buffer, is_tainted, mark_of}
use Rattle.cells.specs.Writes.{Write, written_all}
use Rattle.cells.specs.Over.{among, each, some}
use Rattle.cells.specs.Effect.{Effect}
use Rattle.cells.proofs.WriteLaws.{bytes-kept, taint-kept}
use Rattle.cells.specs.Results.{Kept, Outside, Holds}
use Rattle.cells.proofs.StayLaws.{writes_at, stays}
use Rattle.cells.proofs.RowLaws.{Room, kept-holds}
use Rattle.cells.proofs.CopyLaws.{copy-writes-outside, copy_holds}
use Rattle.cells.proofs.LaneStayLaws.{lanes-outside, lane-stays}
use Rattle.cells.proofs.SearchLaws.{some-none}
use Rattle.cells.proofs.EffectLaws.{unless-done, unless-passed}
use Rattle.bits.specs.Bits.{bit}
use Rattle.exec_byte.specs.Exec.{exec_size}
use Rattle.channels.specs.Lanes.{lane_on}
use Rattle.channels.proofs.LaneLaws.{on-below-size}
use Rattle.plan.specs.Plan.{Plan}
use Rattle.staging.specs.Lanes.{lanes_on}
use Rattle.staging.specs.Sources.{either_tainted}
use Rattle.staging.proofs.LanesOnLaws.{lanes-on-are}
use Rattle.staging.specs.Results.{Enabled}
use Rattle.scatter_effect.specs.Scatter.{Window, channels_on, target, source_byte, misaligned, outside, scatter_pair, first_offending, scatter_effect}
use Rattle.scatter_effect.proofs.FirstTest.{offending-some}
use Rattle.cells.proofs.BoolLaws.{both_true}

-- what test 12 lets pass has its four bytes in the window
inside-window : (w : Window) (address : ℕ) → outside w address ≡ false → address - w.base + 4 ≤ w.length
unfolding outside
inside-window w address e =
    let both = both_true (leb w.base address) (leb (address + 4) (w.base + w.length)) (not-false _ e) in
    omega (arith, leb-true w.base address both.0, leb-true (address + 4) (w.base + w.length) both.1)

module _ (w : Window) (mask : ℕ) (p : Plan) (registers : Buffer) where
  abbrev on : ℕ → Bool
  on = lane_on p.control.exec p.control.pred mask p.bits

  abbrev lanes : List ℕ
  lanes = among on (exec_size p.control.exec)

  -- what the lanes of one channel write
  abbrev channel_writes : ℕ → List Write
  channel_writes c = each (λ i. scatter_pair w registers p c i) lanes

  pair-apart : (c lane j : ℕ) → Outside (place w p registers c lane) 4 j → writes_at (scatter_pair w registers p c lane) j ≡ false
  unfolding scatter_pair
  pair-apart c lane j out = copy-writes-outside registers 4 (source_byte p c lane) (place w p registers c lane) j out

  channel-apart : (c j : ℕ) → ((lane : ℕ) → Enabled mask p lane → Outside (place w p registers c lane) 4 j) → writes_at (channel_writes c) j ≡ false
  channel-apart c j out =
      lanes-outside (λ i. scatter_pair w registers p c i) on (exec_size p.control.exec) j (λ lane _ enabled. pair-apart c lane j (out lane enabled))

  module _ (memory : Buffer) where
    abbrev after : Buffer
    after = written_all (each channel_writes (channels_on p)) memory

    pairs-spare : (j : ℕ) → ((c lane : ℕ) → EnabledPair mask p c lane → Outside (place w p registers c lane) 4 j) → Kept memory after j
    unfolding channels_on
    pairs-spare j out =
        stays (each channel_writes (among (bit p.channels) 4)) memory j
        (lanes-outside channel_writes (bit p.channels) 4 j (λ c h set. channel-apart c j (λ lane enabled. out c lane (record { channel = h; channel-on = set; lane-on = enabled }))))

    pair-holds : (c lane k : ℕ) → EnabledPair mask p c lane → k < 4 → Room memory (place w p registers c lane) 4
        → ((d other : ℕ) → EnabledPair mask p d other → Later c lane d other → Outside (place w p registers d other) 4 (place w p registers c lane + k))
        → Holds after (place w p registers c lane + k) (get_or registers.bytes (source_byte p c lane + k) 0) (mark_of (is_tainted (get_or registers.taint (source_byte p c lane + k) 0)))
    unfolding channels_on scatter_pair
    pair-holds c lane k pair h room later =
        kept-holds _ _ _ _ _
        (lane-stays channel_writes (bit p.channels) c 4 memory j pair.channel pair.channel-on
        (λ d past below set. channel-apart d j (λ other enabled. later d other (record { channel = below; channel-on = set; lane-on = enabled }) (inl past))))
        (kept-holds _ _ _ _ _
        (lane-stays (λ i. scatter_pair w registers p c i) on lane (exec_size p.control.exec) before j (on-below-size p.control.exec p.control.pred mask p.bits lane pair.lane-on) pair.lane-on
        (λ other past _ enabled. pair-apart c other j (later c other (record { channel = pair.channel; channel-on = pair.channel-on; lane-on = enabled }) (inr (refl, past)))))
        (copy_holds registers 4 (source_byte p c lane) (place w p registers c lane) earlier room' k h))
      where
        j : ℕ
        j = place w p registers c lane + k

        -- before the channel's writes, and before the lane's
        before : Buffer
        before = written_all (each channel_writes (among (bit p.channels) c)) memory

        earlier : Buffer
        earlier = written_all (each (λ i. scatter_pair w registers p c i) (among on lane)) before

        room' : Room earlier (place w p registers c lane) 4
        room' =
            record {
              bytes = rw (bytes-kept (each (λ i. scatter_pair w registers p c i) (among on lane)) before, bytes-kept (each channel_writes (among (bit p.channels) c)) memory) room.bytes;
              taint = rw (taint-kept (each (λ i. scatter_pair w registers p c i) (among on lane)) before, taint-kept (each channel_writes (among (bit p.channels) c)) memory) room.taint;
            }

    module _ (bytes : length memory.bytes ≡ w.length) (taint : length memory.taint ≡ w.length) (passed : (scatter_effect w p lanes registers).number ≡ 0) where
      tests : ((scatter_effect w p lanes registers).memory ≡ each channel_writes (channels_on p)) × (some (λ c. some (λ i. outside w (target registers.bytes p c i)) lanes) (channels_on p) ≡ false)
      unfolding scatter_effect
      tests =
          let first = unless-done (some (λ i. either_tainted registers.taint p.left p.right i) lanes) 10 _ _ (omega arith) passed in
          let second = unless-done (is_some (first_offending misaligned p lanes registers.bytes)) 11 _ _ (omega arith) first.1 in
          let third = unless-done (is_some (first_offending (outside w) p lanes registers.bytes)) 12 _ _ (omega arith) second.1 in
          (ap (λ (e : Effect). e.memory) (unless-passed _ 10 _ _ first.0 ∙ (unless-passed _ 11 _ _ second.0 ∙ unless-passed _ 12 _ _ third.0)), sym (offending-some (outside w) p lanes registers.bytes) ∙ third.0)

      pair_inside : (c lane : ℕ) → EnabledPair mask p c lane → Room memory (place w p registers c lane) 4
      unfolding channels_on
      pair_inside c lane pair =
          let row = some-none (λ d. some (λ i. outside w (target registers.bytes p d i)) lanes) (bit p.channels) 4 c tests.1 pair.channel pair.channel-on in
          let here = some-none (λ i. outside w (target registers.bytes p c i)) on (exec_size p.control.exec) lane row (on-below-size p.control.exec p.control.pred mask p.bits lane pair.lane-on) pair.lane-on in
          let fits = inside-window w (target registers.bytes p c lane) here in
          record { bytes = rw bytes fits; taint = rw taint fits }

      pairs-hold : PairsHold w mask p registers memory (written_all (scatter_effect w p lanes registers).memory memory)
      pairs-hold =
          rw tests.0
          (record { enabled = λ c lane k pair h later. pair-holds c lane k pair h (pair_inside c lane pair) later; others = pairs-spare })

pub scatter-results : (w : Window) (mask : ℕ) (p : Plan) (registers memory : Buffer) → length memory.bytes ≡ w.length → length memory.taint ≡ w.length
    → (scatter_effect w p (lanes_on mask p) registers).number ≡ 0
    → PairsHold w mask p registers memory (written_all (scatter_effect w p (lanes_on mask p) registers).memory memory)
scatter-results w mask p registers memory bytes taint passed =
    let passed' = rw (lanes-on-are mask p) at passed in
    rw (lanes-on-are mask p) (pairs-hold w mask p registers memory bytes taint passed')
