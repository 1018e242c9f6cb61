-- Both sources in the room, where they fit: what is read of a lane there is its element as the registers had it, its number and its taint; and
-- a scatter's data stand past both.
use Prim.Native.Nat.{ℕ, ◌+◌, ◌*◌, ◌≤◌, ◌<◌}
use mathlib.Core.Path.{◌≡◌, refl, sym, ap, ap₂, ◌∙◌}
use mathlib.Core.Logic.{inl}
use mathlib.Core.Bool.{true, ◌||◌}
use native.Mathlib.Nat.{mul-le-mul_right}
use native.Mathlib.Omega.{arith}
use lib.ListN.{length, length-replicate}
use Rattle.little_endian.specs.LittleEndian.{number_at}
use Rattle.cells.specs.Buffer.{Buffer, any_tainted}
use Rattle.cells.specs.Writes.{copy_writes}
use Rattle.cells.specs.Results.{Kept}
use Rattle.cells.proofs.NumberLaws.{element-is}
use Rattle.cells.proofs.StayLaws.{stays}
use Rattle.cells.proofs.CopyLaws.{Copied, copied, copy-writes-outside}
use Rattle.operands.specs.declared.Elements.{Elements}
use Rattle.staging.specs.declared.Layout.{Layout}
use Rattle.staging.specs.Sources.{element_value, either_tainted}
use Rattle.staging.specs.Mirror.Room.{empty_room, layout_of, first_place, second_place, data_place, staged, both_staged, data_staged, first_number, second_number, either_staged, elements_fit}
use Rattle.staging.proofs.FitLaws.{fit-lanes, fit-size, fit-bytes}
use Rattle.staging.proofs.SourceLaws.{either_is}
use Rattle.staging.proofs.StagedLaws.{Stands, kept-stands, staged-bytes, staged-taint, staged-stands, stands_after}

zeros : length empty_room.bytes ≡ 512
zeros = length-replicate {A = ℕ} 512 0

module _ (registers : Buffer) (a b : Elements) (lanes : ℕ) where
  abbrev only : Buffer
  only = staged registers a lanes (first_place (layout_of a b lanes) 0) empty_room

  -- the room keeps its length
  both_bytes : length (both_staged registers a b lanes).bytes ≡ 512
  unfolding both_staged
  both_bytes = staged-bytes registers b (second_place (layout_of a b lanes) 0) lanes only ∙ staged-bytes registers a (first_place (layout_of a b lanes) 0) lanes empty_room ∙ zeros

  both-taint : length (both_staged registers a b lanes).taint ≡ 512
  unfolding both_staged
  both-taint = staged-taint registers b (second_place (layout_of a b lanes) 0) lanes only ∙ staged-taint registers a (first_place (layout_of a b lanes) 0) lanes empty_room ∙ zeros

  -- what is before the data
  abbrev end : ℕ
  end = lanes * a.size + lanes * b.size

  module _ (room : end ≤ 512) (lane : ℕ) (h : lane < lanes) where
    first_alone : Stands registers a (first_place (layout_of a b lanes) 0) lane only
    unfolding first_place
    first_alone =
        let z = zeros in
        staged-stands registers a (first_place (layout_of a b lanes) 0) lanes lane empty_room (record { bytes = omega arith; taint = omega arith }) h

    first-stands : Stands registers a (first_place (layout_of a b lanes) 0) lane (both_staged registers a b lanes)
    unfolding both_staged first_place second_place
    first-stands =
        let m = mul-le-mul_right a.size h in
        stands_after registers a (first_place (layout_of a b lanes) 0) lane only registers b lanes (second_place (layout_of a b lanes) 0) first_alone (inl (omega arith))

    second-stands : Stands registers b (second_place (layout_of a b lanes) 0) lane (both_staged registers a b lanes)
    unfolding both_staged second_place
    second-stands =
        let z = zeros in
        staged-stands registers b (second_place (layout_of a b lanes) 0) lanes lane only (record { bytes = omega (arith, staged-bytes registers a (first_place (layout_of a b lanes) 0) lanes empty_room); taint = omega (arith, staged-taint registers a (first_place (layout_of a b lanes) 0) lanes empty_room) }) h

module _ (registers : Buffer) (a b : Elements) (size lanes : ℕ) (small : size ≤ 8) (l : elements_fit size a lanes ≡ true) (r : elements_fit size b lanes ≡ true) where
  abbrev layout : Layout
  layout = layout_of a b lanes

  -- 32 lanes of 8 bytes, twice
  pub sources-fit : data_place layout ≤ 512
  unfolding data_place
  sources-fit =
      let few = fit-lanes size a lanes l in
      let s : a.size ≤ 8 = omega (arith, fit-size size a lanes l) in
      let t : b.size ≤ 8 = omega (arith, fit-size size b lanes r) in
      omega (arith, fit-bytes a 8 lanes 32 few s, fit-bytes b 8 lanes 32 few t)

  -- in any room that has what both sources left there
  module _ (room : Buffer) (same : (j : ℕ) → j < data_place layout → Kept (both_staged registers a b lanes) room j) (lane : ℕ) (h : lane < lanes) where
    first-there : Stands registers a (first_place layout 0) lane room
    unfolding first_place data_place
    first-there =
        let m = mul-le-mul_right a.size h in
        kept-stands registers a (first_place layout 0) lane (both_staged registers a b lanes) room (λ k g. same _ (omega arith)) (first-stands registers a b lanes sources-fit lane h)

    second-there : Stands registers b (second_place layout 0) lane room
    unfolding second_place data_place
    second-there =
        let m = mul-le-mul_right b.size h in
        kept-stands registers b (second_place layout 0) lane (both_staged registers a b lanes) room (λ k g. same _ (omega arith)) (second-stands registers a b lanes sources-fit lane h)

    first-at : first_place layout 0 + lane * a.size ≡ first_place layout lane
    unfolding first_place
    first-at = omega arith

    second_at : second_place layout 0 + lane * b.size ≡ second_place layout lane
    unfolding second_place
    second_at = omega arith

    first-is : first_number room.bytes layout lane ≡ element_value registers.bytes a lane
    unfolding first_number
    first-is =
        element-is a.size room.bytes (first_place layout lane) (omega (arith, fit-size size a lanes l))
        ∙ (ap (λ (j : ℕ). number_at a.size room.bytes j) (sym first-at) ∙ first-there.number)

    second_is : second_number room.bytes layout lane ≡ element_value registers.bytes b lane
    unfolding second_number
    second_is =
        element-is b.size room.bytes (second_place layout lane) (omega (arith, fit-size size b lanes r))
        ∙ (ap (λ (j : ℕ). number_at b.size room.bytes j) (sym second_at) ∙ second-there.number)

    staged-either-is : either_staged room.taint layout lane ≡ either_tainted registers.taint a b lane
    unfolding either_staged
    staged-either-is =
        ap₂ ◌||◌
        (ap (λ (j : ℕ). any_tainted room.taint j a.size) (sym first-at) ∙ first-there.taint)
        (ap (λ (j : ℕ). any_tainted room.taint j b.size) (sym second_at) ∙ second-there.taint)
        ∙ sym (either_is registers.taint a b lane)

  -- of the room where both sources were staged
  both-kept : (j : ℕ) → j < data_place layout → Kept (both_staged registers a b lanes) (both_staged registers a b lanes) j
  both-kept j h = record { byte = refl; mark = refl }

  pub both_first : (lane : ℕ) → lane < lanes → first_number (both_staged registers a b lanes).bytes layout lane ≡ element_value registers.bytes a lane
  both_first = first-is (both_staged registers a b lanes) both-kept

  pub both-second : (lane : ℕ) → lane < lanes → second_number (both_staged registers a b lanes).bytes layout lane ≡ element_value registers.bytes b lane
  both-second = second_is (both_staged registers a b lanes) both-kept

  pub both-either : (lane : ℕ) → lane < lanes → either_staged (both_staged registers a b lanes).taint layout lane ≡ either_tainted registers.taint a b lane
  both-either = staged-either-is (both_staged registers a b lanes) both-kept

  -- and of the room with a scatter's data past them
  module _ (from count : ℕ) where
    data-kept : (j : ℕ) → j < data_place layout → Kept (both_staged registers a b lanes) (data_staged registers a b lanes from count) j
    unfolding data_staged
    data-kept j h =
        stays (copy_writes registers from (data_place layout) count) (both_staged registers a b lanes) j
        (copy-writes-outside registers count from (data_place layout) j (inl h))

    pub data-first : (lane : ℕ) → lane < lanes → first_number (data_staged registers a b lanes from count).bytes layout lane ≡ element_value registers.bytes a lane
    data-first = first-is (data_staged registers a b lanes from count) data-kept

    pub data-second : (lane : ℕ) → lane < lanes → second_number (data_staged registers a b lanes from count).bytes layout lane ≡ element_value registers.bytes b lane
    data-second = second_is (data_staged registers a b lanes from count) data-kept

    pub data-either : (lane : ℕ) → lane < lanes → either_staged (data_staged registers a b lanes from count).taint layout lane ≡ either_tainted registers.taint a b lane
    data-either = staged-either-is (data_staged registers a b lanes from count) data-kept

    pub data-copied : data_place layout + count ≤ 512 → (k : ℕ) → k < count → Copied registers from (data_staged registers a b lanes from count) (data_place layout) k
    unfolding data_staged
    data-copied fits k h =
        copied registers count from (data_place layout) (both_staged registers a b lanes)
        (record { bytes = rw (both_bytes registers a b lanes) fits; taint = rw (both-taint registers a b lanes) fits }) k h
