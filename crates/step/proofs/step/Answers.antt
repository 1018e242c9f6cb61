-- `step::step` meets its contract: decoding's refusal, the plan's, the performed plan's, or the position behind.
use Rattle.std.proofs.Common.{arith, refl}
use Rattle.tables.specs.Borrowed.{tables_of}
use Rattle.step.specs.State.{setup}
use Rattle.step.specs.Borrowed.{state_of}
use Rattle.step.proofs.FitsLaws.{plan-chosen, told-fits}
use Rattle.step.proofs.Rooms.{leaving}
use Rattle.step.proofs.StepLaws.{undecoded, refused-before, refused-then, advances}
use Rattle.step.proofs.step.Goals as goal

pub returns-in-Err-clause-answer : goal.returns-in-Err-clause-answer
returns-in-Err-clause-answer c =
    let x = setup c.args.kernel.now (tables_of c.args.tables) c.args.constants in
    (undecoded x c.args.at (state_of c.args.room.now) _ c.decode.ensures _ c.in-Err.is).0

pub returns-in-Err-clause-room : goal.returns-in-Err-clause-room
returns-in-Err-clause-room c =
    let x = setup c.args.kernel.now (tables_of c.args.tables) c.args.constants in
    let t = undecoded x c.args.at (state_of c.args.room.now) _ c.decode.ensures _ c.in-Err.is in
    record { registers = refl; register_taint = refl; memory = refl; memory_taint = refl; surfaces = refl; surface_taint = refl; leaves = t.1 }

pub returns-in-Err-check-clause-answer : goal.returns-in-Err-check-clause-answer
returns-in-Err-check-clause-answer c =
    let x = setup c.args.kernel.now (tables_of c.args.tables) c.args.constants in
    let plan = plan-chosen _ _ _ _ _ c.chosen_size-register_size.ensures c.check.ensures in
    (refused-before x c.args.at (state_of c.args.room.now) _ c.decode.ensures _ _ c.in-Ok.is _ plan _ c.in-Err-check.is).0

pub returns-in-Err-check-clause-room : goal.returns-in-Err-check-clause-room
returns-in-Err-check-clause-room c =
    let x = setup c.args.kernel.now (tables_of c.args.tables) c.args.constants in
    let plan = plan-chosen _ _ _ _ _ c.chosen_size-register_size.ensures c.check.ensures in
    let t = refused-before x c.args.at (state_of c.args.room.now) _ c.decode.ensures _ _ c.in-Ok.is _ plan _ c.in-Err-check.is in
    record { registers = refl; register_taint = refl; memory = refl; memory_taint = refl; surfaces = refl; surface_taint = refl; leaves = t.1 }

pub perform-requires : goal.perform-requires
perform-requires c =
    told-fits _ _ _ _ (λ n. omega (arith, c.type_inv.kernel n)) _ _ _ _ _ c.decode.ensures c.in-Ok.is
    (plan-chosen _ _ _ _ _ c.chosen_size-register_size.ensures c.check.ensures) c.in-Ok-check.is

pub returns-in-Err-perform-clause-answer : goal.returns-in-Err-perform-clause-answer
returns-in-Err-perform-clause-answer c =
    let x = setup c.args.kernel.now (tables_of c.args.tables) c.args.constants in
    let plan = plan-chosen _ _ _ _ _ c.chosen_size-register_size.ensures c.check.ensures in
    (refused-then x c.args.at (state_of c.args.room.now) _ c.decode.ensures _ _ c.in-Ok.is _ plan _ c.in-Ok-check.is _ _ c.perform.ensures.answer c.perform.ensures.room.leaves _ c.in-Err-perform.is).0

pub returns-in-Err-perform-clause-room : goal.returns-in-Err-perform-clause-room
returns-in-Err-perform-clause-room c =
    let x = setup c.args.kernel.now (tables_of c.args.tables) c.args.constants in
    let plan = plan-chosen _ _ _ _ _ c.chosen_size-register_size.ensures c.check.ensures in
    let t = refused-then x c.args.at (state_of c.args.room.now) _ c.decode.ensures _ _ c.in-Ok.is _ plan _ c.in-Ok-check.is _ _ c.perform.ensures.answer c.perform.ensures.room.leaves _ c.in-Err-perform.is in
    leaving c.perform.ensures.room _ t.1

pub returns-in-Ok-perform-clause-answer : goal.returns-in-Ok-perform-clause-answer
returns-in-Ok-perform-clause-answer c =
    let x = setup c.args.kernel.now (tables_of c.args.tables) c.args.constants in
    let plan = plan-chosen _ _ _ _ _ c.chosen_size-register_size.ensures c.check.ensures in
    (advances x c.args.at (state_of c.args.room.now) _ c.decode.ensures _ _ c.in-Ok.is _ plan _ c.in-Ok-check.is _ _ c.perform.ensures.answer c.perform.ensures.room.leaves c.in-Ok-perform.is).0

pub returns-in-Ok-perform-clause-room : goal.returns-in-Ok-perform-clause-room
returns-in-Ok-perform-clause-room c =
    let x = setup c.args.kernel.now (tables_of c.args.tables) c.args.constants in
    let plan = plan-chosen _ _ _ _ _ c.chosen_size-register_size.ensures c.check.ensures in
    let t = advances x c.args.at (state_of c.args.room.now) _ c.decode.ensures _ _ c.in-Ok.is _ plan _ c.in-Ok-check.is _ _ c.perform.ensures.answer c.perform.ensures.room.leaves c.in-Ok-perform.is in
    leaving c.perform.ensures.room _ t.1
