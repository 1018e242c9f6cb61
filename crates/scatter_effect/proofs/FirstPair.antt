-- A scatter's search tells the first offending pair of all enabled pairs.
use Prim.Native.Nat.{ℕ, ◌<◌}
use mathlib.Core.Path.{◌≡◌}
use mathlib.Core.Logic.{⊎_elim}
use mathlib.Core.Bool.{Bool, true, false}
use mathlib.Core.List.{List, []}
use native.Mathlib.Omega.{arith}
use Rattle.refusal.specs.declared.Detail.{Detail}
use Rattle.refusal.specs.declared.Detail.TheVariants as detail
use Rattle.refusal.specs.Details.{is_some}
use Rattle.cells.specs.Buffer.{Buffer}
use Rattle.cells.specs.Over.{among, each, some, first_pair}
use Rattle.cells.specs.Effect.{Effect, unless, unless_found, writing}
use Rattle.cells.proofs.FirstFound.{FoundPair, NoPair, pairs-found}
use Rattle.bits.specs.Bits.{bit}
use Rattle.exec_byte.specs.Exec.{exec_size}
use Rattle.channels.specs.Lanes.{lane_on}
use Rattle.channels.proofs.LaneLaws.{on-below-size}
use Rattle.plan.specs.Plan.{Plan}
use Rattle.staging.specs.Lanes.{lanes_on}
use Rattle.staging.specs.Results.{Enabled}
use Rattle.staging.specs.Sources.{either_tainted}
use Rattle.staging.proofs.LanesOnLaws.{lanes-on-are}
use Rattle.scatter_effect.specs.Scatter.{Window, channels_on, target, misaligned, outside, scatter_pair, first_offending, scatter_effect}
use Rattle.scatter_effect.specs.Results.{EnabledPair}
use Rattle.scatter_effect.specs.Offending.{IsFirst, Searched, found, clear, ScatterTells, done, doubtful, misaligned_pair, outside_pair}

module _ (mask : ℕ) (p : Plan) (offends : ℕ → ℕ → Bool) where
  abbrev on : ℕ → Bool
  on = lane_on p.control.exec p.control.pred mask p.bits

  abbrev size : ℕ
  size = exec_size p.control.exec

  below : (lane : ℕ) → Enabled mask p lane → lane < size
  below lane h = on-below-size p.control.exec p.control.pred mask p.bits lane h

  found_first : (d : Detail) → FoundPair offends (bit p.channels) on size 0 4 d → Searched mask p offends d
  found_first d f =
      rw f.is
      (found {c = f.channel} {lane = f.lane} (record {
        enabled = record { channel = omega (arith, f.high); channel-on = f.channel-on; lane-on = f.lane-on };
        offending = f.has;
        before = λ e other pair later.
            ⊎_elim
            (λ l. f.channels-before e other (omega arith) l pair.channel-on (below other pair.lane-on) pair.lane-on)
            (λ same. rw same.0 (f.lanes-before other same.1 pair.lane-on))
            later;
      }))

  found_none : (d : Detail) → NoPair offends (bit p.channels) on size 0 4 d → Searched mask p offends d
  found_none d z = rw z.is (clear (λ c lane pair. z.none c lane (omega arith) (omega (arith, pair.channel)) pair.channel-on (below lane pair.lane-on) pair.lane-on))

  pairs-searched : Searched mask p offends (first_pair offends (among (bit p.channels) 4) (among on size))
  pairs-searched = ⊎_elim (found_first _) (found_none _) (pairs-found offends (bit p.channels) on size 4)

pub offending-first : (fails : ℕ → Bool) (mask : ℕ) (p : Plan) (bytes : List ℕ) → Searched mask p (λ c i. fails (target bytes p c i)) (first_offending fails p (lanes_on mask p) bytes)
unfolding first_offending channels_on
offending-first fails mask p bytes = rw (lanes-on-are mask p) (pairs-searched mask p (λ c i. fails (target bytes p c i)))

-- a search that refuses tells the first pair, and one that does not leaves what follows, of which it says that no pair offends
module _ (offends : ℕ → ℕ → Bool) (mask : ℕ) (p : Plan) where
  search-tells : (P : ℕ → Detail → Type 0) (n : ℕ) (d : Detail) (e : Effect) → Searched mask p offends d → ((c lane : ℕ) → IsFirst mask p offends c lane → P n (detail.Pair c lane))
      → (((c lane : ℕ) → EnabledPair mask p c lane → offends c lane ≡ false) → P e.number e.detail) → P (unless_found n d e).number (unless_found n d e).detail
  unfolding unless is_some
  search-tells P n d e (found {c} {lane} first) named later = named c lane first
  search-tells P n d e (clear none) named later = later none

pub scatter-tells : (w : Window) (mask : ℕ) (p : Plan) (b : Buffer) → ScatterTells w mask p b.bytes (scatter_effect w p (lanes_on mask p) b).number (scatter_effect w p (lanes_on mask p) b).detail
unfolding scatter_effect unless
scatter-tells w mask p b = told (some (λ i. either_tainted b.taint p.left p.right i) (lanes_on mask p))
  where
    rest : Effect
    rest =
        unless_found 11 (first_offending misaligned p (lanes_on mask p) b.bytes)
        (unless_found 12 (first_offending (outside w) p (lanes_on mask p) b.bytes)
        (writing [] (each (λ c. each (λ i. scatter_pair w b p c i) (lanes_on mask p)) (channels_on p))))

    told : (q : Bool) → ScatterTells w mask p b.bytes (unless q 10 detail.None rest).number (unless q 10 detail.None rest).detail
    told true = doubtful
    told false =
        search-tells (λ d i. misaligned (target b.bytes p d i)) mask p (ScatterTells w mask p b.bytes) 11 _ _ (offending-first misaligned mask p b.bytes) (λ c lane first. misaligned_pair first)
        (λ even. search-tells (λ d i. outside w (target b.bytes p d i)) mask p (ScatterTells w mask p b.bytes) 12 _ _ (offending-first (outside w) mask p b.bytes) (λ c lane first. outside_pair even first) (λ _. done))
