use Rattle.std.proofs.Common.{◌∷◌, [], refl, sym, append_assoc}
use Rattle.std.proofs.lemmas.Result.{on_err_weaker, IfOk-weaker}
use Rattle.of_machine.{specs.declared.tables.Then.Then, specs.Rows.Lookup, specs.Rows.works, specs.Rows.at_entry, specs.Runs.Follows, specs.Runs.then_works, proofs.Promises.flow_served}
use Rattle.of_machine.proofs.Moving.{misses, enters}
use Rattle.of_machine.proofs.tables.look_up.Goals as goal

pub follow-requires-clause-served : goal.follow-requires-clause-served
follow-requires-clause-served g c =
    rw c.as_slice-instructions.ensures.instructions (flow_served c.flow-flow.result.now.instructions (c.requires.kept c.args.table c.in-Some.number c.flow-flow.result.now (rw c.in-Some.ensures.kept at c.flow-flow.ensures)))

pub follow-requires-clause-onward : goal.follow-requires-clause-onward
follow-requires-clause-onward g c =
    rw c.as_slice-instructions.ensures.instructions (c.requires.onward c.args.table c.in-Some.number c.flow-flow.result.now (rw c.in-Some.ensures.kept at c.flow-flow.ensures))

pub returns-in_ok-step-in-None-clause-ok : goal.returns-in_ok-step-in-None-clause-ok
returns-in_ok-step-in-None-clause-ok g c =
    let none = sym (rw c.key-key.ensures.value at c.in-None.ensures.found) in
    rw c.key-key.ensures.same (λ others. misses (g.W.World.view c.args.world.now) g.S.StepLog.KEEPS c.args.packet.now [] others c.args.outcome.now (g.S.StepLog.list c.args.log.now) (g.S.StepLog.list c.step.new.self) (record c.args.outcome.now { counts = c.push.new.self }) c.args.table none refl c.in_ok-push-in-None.ensures.ok c.in_ok-step-in-None.ensures.ok)

pub returns-in_ok-step-in-Some-clause-ok : goal.returns-in_ok-step-in-Some-clause-ok
returns-in_ok-step-in-Some-clause-ok g c =
    let w = g.W.World.view c.args.world.now in
    let k = g.S.StepLog.KEEPS in
    let told = g.S.StepLog.list c.step-in-Some.new.self in
    let f = c.flow-flow.result.now in
    let found = sym (rw c.key-key.ensures.value at c.in-Some.ensures.found) in
    let there = rw c.in-Some.ensures.kept at c.flow-flow.ensures in
    let counts = rw (c.in_ok-push-in-Some.ensures.ok, c.len.ensures, c.key-key.ensures.same, append_assoc) at c.in_ok-push-in-Some-2.ensures.ok in
    let o = record c.args.outcome.now { counts = c.push-in-Some-2.new.self } in
    IfOk-weaker c.follow.result
    (λ (then : Then). Follows w k (at_entry c.args.table f c.args.packet.now) (works f.instructions) o told (then_works then) c.follow.new.packet c.follow.new.outcome (g.S.StepLog.list c.follow.new.log))
    (λ (then : Then). Follows w k c.args.packet.now (Lookup c.args.table ∷ []) c.args.outcome.now (g.S.StepLog.list c.args.log.now) (then_works then) c.follow.new.packet c.follow.new.outcome (g.S.StepLog.list c.follow.new.log))
    (λ (then : Then) m others start h. m others start (enters w k c.args.packet.now [] others c.args.outcome.now (g.S.StepLog.list c.args.log.now) told o c.args.table c.in-Some.number f found there refl counts c.in_ok-step-in-Some.ensures.ok start h))
    (rw (c.in-Some.ensures.kept, c.as_slice-instructions.ensures.instructions, c.is_miss-packet.ensures, c.key-key.ensures.same) at c.follow.ensures.ok)

pub returns-in_ok-step-in-Some-clause-err : goal.returns-in_ok-step-in-Some-clause-err
returns-in_ok-step-in-Some-clause-err g c =
    let w = g.W.World.view c.args.world.now in
    let k = g.S.StepLog.KEEPS in
    let told = g.S.StepLog.list c.step-in-Some.new.self in
    let f = c.flow-flow.result.now in
    let found = sym (rw c.key-key.ensures.value at c.in-Some.ensures.found) in
    let there = rw c.in-Some.ensures.kept at c.flow-flow.ensures in
    let counts = rw (c.in_ok-push-in-Some.ensures.ok, c.len.ensures, c.key-key.ensures.same, append_assoc) at c.in_ok-push-in-Some-2.ensures.ok in
    let o = record c.args.outcome.now { counts = c.push-in-Some-2.new.self } in
    on_err_weaker c.follow.result
    (λ m others start h. m others start (enters w k c.args.packet.now [] others c.args.outcome.now (g.S.StepLog.list c.args.log.now) told o c.args.table c.in-Some.number f found there refl counts c.in_ok-step-in-Some.ensures.ok start h))
    (rw (c.in-Some.ensures.kept, c.as_slice-instructions.ensures.instructions, c.is_miss-packet.ensures, c.key-key.ensures.same) at c.follow.ensures.err)
