-- Two steps that go the same way: the same number, which tells the same, and next position, and related states after them.
use mathlib.Core.Path.{◌≡◌, refl}
use Prim.Native.Nat.{ℕ}
use Rattle.refusal.specs.declared.Detail.TheVariants as detail
use Rattle.cells.specs.Effect.{Effect, refused}
use Rattle.cells.proofs.Related.{Related, none, EffectsAlike, related-after}
use Rattle.step.specs.State.{State}
use Rattle.step.specs.Step.{Stepped, after}

pub record SameStep (S : State → State → Type 0) (t u : Stepped) (s v : State) : Type 0 where
  pub next : t.next ≡ u.next
  pub number : t.effect.number ≡ u.effect.number
  pub detail : t.effect.detail ≡ u.effect.detail
  pub state : S (after t.effect s) (after u.effect v)

-- by a relation of cells: states that are related buffer by buffer, and steps of alike effects
module _ (R : ℕ → ℕ → ℕ → ℕ → ℕ → Type 0) where
  pub record RelatedStates (s u : State) : Type 0 where
    pub registers : Related R s.registers u.registers
    pub surfaces : Related R s.surfaces u.surfaces
    pub memory : Related R s.memory u.memory

  module _ (s u : State) (r : RelatedStates s u) where
    pub alike-steps : (n : ℕ) (d e : Effect) → EffectsAlike R d e → SameStep RelatedStates (record { next = n; effect = d }) (record { next = n; effect = e }) s u
    alike-steps n d e a =
        record {
          next = refl;
          number = a.number;
          detail = a.detail;
          state = record {
            registers = related-after R a.registers _ _ r.registers;
            surfaces = r.surfaces;
            memory = related-after R a.memory _ _ r.memory;
          };
        }

    pub refused-steps : (at n : ℕ) → SameStep RelatedStates (record { next = at; effect = refused n detail.None }) (record { next = at; effect = refused n detail.None }) s u
    refused-steps at n = alike-steps at (refused n detail.None) (refused n detail.None) (record { number = refl; detail = refl; registers = none; memory = none })
