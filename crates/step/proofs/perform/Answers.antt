-- `step::perform` meets its contract: it leaves what the executor of the operation left.
use Rattle.std.proofs.Common.{rules, refl, ◌∙◌}
use Rattle.step.specs.Borrowed.{state_of}
use Rattle.step.proofs.PerformLaws.{shl-performs, gather-performs, scatter-performs}
use Rattle.step.proofs.perform.Goals as goal

pub returns-in-Shl-clause-answer : goal.returns-in-Shl-clause-answer
returns-in-Shl-clause-answer c =
    (shl-performs _ _ (state_of c.args.room.now) c.requires _ _ c.in-Shl.is (c.shl.ensures.0, c.shl.ensures.1) c.shl.ensures.2.content).0

pub returns-in-Shl-clause-room : goal.returns-in-Shl-clause-room
returns-in-Shl-clause-room c =
    let h = (shl-performs _ _ (state_of c.args.room.now) c.requires _ _ c.in-Shl.is (c.shl.ensures.0, c.shl.ensures.1) c.shl.ensures.2.content).1 in
    record { registers = refl; register_taint = refl; memory = refl; memory_taint = refl; surfaces = refl; surface_taint = refl; leaves = search rules ∙ h }

pub returns-in-Gather-clause-answer : goal.returns-in-Gather-clause-answer
returns-in-Gather-clause-answer c =
    (gather-performs _ _ (state_of c.args.room.now) c.requires _ _ c.in-Gather.is (c.gather.ensures.0, c.gather.ensures.1) c.gather.ensures.2.content).0

pub returns-in-Gather-clause-room : goal.returns-in-Gather-clause-room
returns-in-Gather-clause-room c =
    let h = (gather-performs _ _ (state_of c.args.room.now) c.requires _ _ c.in-Gather.is (c.gather.ensures.0, c.gather.ensures.1) c.gather.ensures.2.content).1 in
    record { registers = refl; register_taint = refl; memory = refl; memory_taint = refl; surfaces = refl; surface_taint = refl; leaves = search rules ∙ h }

pub returns-in-Scatter-clause-answer : goal.returns-in-Scatter-clause-answer
returns-in-Scatter-clause-answer c =
    (scatter-performs _ _ (state_of c.args.room.now) c.requires _ _ _ c.view.ensures c.in-Scatter.is (c.scatter.ensures.0, c.scatter.ensures.1, c.scatter.ensures.2.content)).0

pub returns-in-Scatter-clause-room : goal.returns-in-Scatter-clause-room
returns-in-Scatter-clause-room c =
    let h = (scatter-performs _ _ (state_of c.args.room.now) c.requires _ _ _ c.view.ensures c.in-Scatter.is (c.scatter.ensures.0, c.scatter.ensures.1, c.scatter.ensures.2.content)).1 in
    record { registers = refl; register_taint = refl; memory = refl; memory_taint = refl; surfaces = refl; surface_taint = refl; leaves = search rules ∙ h }
