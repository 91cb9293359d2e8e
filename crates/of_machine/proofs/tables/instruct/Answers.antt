use Rattle.std.proofs.{Common.[], Common.◌∙◌, Common.refl, lemmas.Result.err_from_is_err_and}
use Rattle.of_machine.proofs.Moving.{applies, clears, writes, marks, jumps}
use Rattle.of_machine.{specs.Rows.works, proofs.Promises.list_served, proofs.Promises.all_are_below}
use Rattle.of_machine.proofs.tables.instruct.Goals as goal

pub act_all-requires-clause-served : goal.act_all-requires-clause-served
act_all-requires-clause-served g c =
    rw c.as_slice.ensures.actions (list_served c.in-Apply.actions (rw c.in-Apply.is at c.requires.served))

pub act_all-requires-clause-below : goal.act_all-requires-clause-below
act_all-requires-clause-below g c =
    all_are_below (g.W.World.view c.args.world.now) c.as_slice.result.now c.requires.sound

pub write-requires : goal.write-requires
write-requires g c =
    rw c.as_slice-in-Write.ensures.actions (list_served c.in-Write.actions (rw c.in-Write.is at c.requires.served))

pub returns-in_err-act_all-in-Apply-clause-err : goal.returns-in_err-act_all-in-Apply-clause-err
returns-in_err-act_all-in-Apply-clause-err g c =
    let p = err_from_is_err_and c.from_residual-in_err-act_all-in-Apply.result c.from_residual-in_err-act_all-in-Apply.ensures.1 in
    rw (p.1, c.in-Apply.is) (λ rest others start h. c.in_err-act_all-in-Apply.ensures.err (works rest) others start (rw c.as_slice.ensures.actions (applies (g.W.World.view c.args.world.now) g.S.StepLog.KEEPS c.args.packet.now (works rest) others c.args.outcome.now (g.S.StepLog.list c.args.log.now) (g.S.StepLog.list c.step.new.self) _ c.in_ok-step-in-Apply.ensures.ok start h)))

pub returns-in-Continues-clause-ok : goal.returns-in-Continues-clause-ok
returns-in-Continues-clause-ok g c =
    rw c.in-Apply.is (λ rest others start h. rw c.in-Continues.is at (c.in_ok-act_all-in-Apply.ensures.ok (works rest) others start (rw c.as_slice.ensures.actions (applies (g.W.World.view c.args.world.now) g.S.StepLog.KEEPS c.args.packet.now (works rest) others c.args.outcome.now (g.S.StepLog.list c.args.log.now) (g.S.StepLog.list c.step.new.self) _ c.in_ok-step-in-Apply.ensures.ok start h))))

pub returns-in-Ended-clause-ok : goal.returns-in-Ended-clause-ok
returns-in-Ended-clause-ok g c =
    rw c.in-Apply.is (λ rest others start h. rw c.in-Ended.is at (c.in_ok-act_all-in-Apply.ensures.ok (works rest) others start (rw c.as_slice.ensures.actions (applies (g.W.World.view c.args.world.now) g.S.StepLog.KEEPS c.args.packet.now (works rest) others c.args.outcome.now (g.S.StepLog.list c.args.log.now) (g.S.StepLog.list c.step.new.self) _ c.in_ok-step-in-Apply.ensures.ok start h))))

pub returns-in_ok-step-in-Clear-clause-ok : goal.returns-in_ok-step-in-Clear-clause-ok
returns-in_ok-step-in-Clear-clause-ok g c =
    rw c.in-Clear.is (λ rest others. clears (g.W.World.view c.args.world.now) g.S.StepLog.KEEPS c.args.packet.now (works rest) others c.args.outcome.now (g.S.StepLog.list c.args.log.now) (g.S.StepLog.list c.step-in-Clear.new.self) c.clear.new.self c.clear.ensures c.in_ok-step-in-Clear.ensures.ok)

pub returns-in_ok-step-in-Write-clause-ok : goal.returns-in_ok-step-in-Write-clause-ok
returns-in_ok-step-in-Write-clause-ok g c =
    rw c.in-Write.is (λ rest others. writes (g.W.World.view c.args.world.now) g.S.StepLog.KEEPS c.args.packet.now (works rest) others c.args.outcome.now (g.S.StepLog.list c.args.log.now) (g.S.StepLog.list c.step-in-Write.new.self) _ c.write.new.self (c.write.ensures ∙ rw c.as_slice-in-Write.ensures.actions refl) c.in_ok-step-in-Write.ensures.ok)

pub returns-in_ok-step-in-Metadata-clause-ok : goal.returns-in_ok-step-in-Metadata-clause-ok
returns-in_ok-step-in-Metadata-clause-ok g c =
    rw c.in-Metadata.is (λ rest others. marks (g.W.World.view c.args.world.now) g.S.StepLog.KEEPS c.args.packet.now (works rest) others c.args.outcome.now (g.S.StepLog.list c.args.log.now) (g.S.StepLog.list c.step-in-Metadata.new.self) _ _ c.in_ok-step-in-Metadata.ensures.ok)

pub returns-in_ok-step-in-Goto-clause-ok : goal.returns-in_ok-step-in-Goto-clause-ok
returns-in_ok-step-in-Goto-clause-ok g c =
    rw c.in-Goto.is (λ rest others. jumps (g.W.World.view c.args.world.now) g.S.StepLog.KEEPS c.args.packet.now [] others c.args.outcome.now (g.S.StepLog.list c.args.log.now) (g.S.StepLog.list c.step-in-Goto.new.self) _ c.in_ok-step-in-Goto.ensures.ok)
