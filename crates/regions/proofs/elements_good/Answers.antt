-- `regions::elements_good` meets its contract: all lanes are inside if the highest is.
use Rattle.std.proofs.Common.{◌≡◌, ap, Bool, ◌&&◌, ◌||◌, ℕ, ◌+◌, ◌*◌, ◌-◌, ltb, eqb}
use Rattle.element_types.specs.Types.{size_of}
use Rattle.regions.specs.declared.Variable.{Variable}
use Rattle.regions.specs.declared.Reach.{Reach}
use Rattle.regions.specs.Reach.{lowest, highest, two_registers, reach_good, elements_good}
use Rattle.regions.proofs.ReachLaws.{inside-highest}
use Rattle.regions.proofs.GridLaws.{grid-known}
use Rattle.regions.proofs.elements_good.Goals as goal

both : (register_size : ℕ) (v : Variable) (f g : ℕ → ℕ) (lanes size low high : ℕ) (two : Bool) → f ≡ g → size ≡ size_of v.code → low ≡ lowest f lanes → high ≡ highest f lanes
    → two ≡ two_registers register_size (v.start + low * size) (v.start + high * size + size - 1) → ((eqb lanes 0 || ltb high v.count) && two) ≡ elements_good register_size v g lanes
unfolding elements_good reach_good
both register_size v f g lanes size low high two e s l h t = rw (t, l, h, s, e, inside-highest g v.count lanes)

pub returns : goal.returns
returns c =
    rw (c.from-high.ensures, c.from.ensures)
    (both _ _ _ _ _ _ _ _ _ (grid-known _ _ _ _ _ _ c.size_of-size.ensures c.grid_of-grid.ensures) c.size_of-size.ensures
    (ap (λ (r : Reach). r.low) c.reach_of-reach.ensures) (ap (λ (r : Reach). r.high) c.reach_of-reach.ensures) (rw (c.from-start.ensures, c.from-low.ensures, c.from-high.ensures, c.from-bytes.ensures) at c.two_registers.ensures))
