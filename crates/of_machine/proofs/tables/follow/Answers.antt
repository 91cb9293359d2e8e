use Rattle.std.proofs.{Common.◌≡◌, Common.◌+◌, Common.[], Common.drop, lemmas.List.drop_all, lemmas.Result.err_from_is_err_and}
use Rattle.of_actions.specs.InstructionLists.{is_served_body, is_for}
use Rattle.of_machine.proofs.{Promises.all_at, Moving.instructions_at}
use Rattle.of_machine.proofs.tables.follow.Goals as goal

pub instruct-requires-clause-served : goal.instruct-requires-clause-served
instruct-requires-clause-served g c =
    rw c.instruction-item.is (all_at is_served_body c.args.instructions.now c.loop-instruction.instruction-index c.instruction-item.result c.requires.served c.loop-instruction-test.true)

pub instruct-requires-clause-onward : goal.instruct-requires-clause-onward
instruct-requires-clause-onward g c =
    rw c.instruction-item.is (all_at (is_for c.args.table) c.args.instructions.now c.loop-instruction.instruction-index c.instruction-item.result c.requires.onward c.loop-instruction-test.true)

pub returns-in_err-instruct-clause-err : goal.returns-in_err-instruct-clause-err
returns-in_err-instruct-clause-err g c =
    let p = err_from_is_err_and c.from_residual.result c.from_residual.ensures.1 in
    let l = c.args.instructions.now in
    let i = c.loop-instruction.instruction-index in
    rw p.1 (λ others start h. c.in_err-instruct.ensures.err (drop (i + 1) l) others start
    (rw (instructions_at l i c.instruction-item.result c.instruction-item.is c.loop-instruction-test.true) at (c.loop-instruction.invariant others start h)))

pub returns-in-Ended-clause-ok : goal.returns-in-Ended-clause-ok
returns-in-Ended-clause-ok g c =
    let l = c.args.instructions.now in
    let i = c.loop-instruction.instruction-index in
    λ others start h. rw c.in-Ended.is at (c.in_ok-instruct.ensures.ok (drop (i + 1) l) others start
    (rw (instructions_at l i c.instruction-item.result c.instruction-item.is c.loop-instruction-test.true) at (c.loop-instruction.invariant others start h)))

pub returns-in-Lookup-clause-ok : goal.returns-in-Lookup-clause-ok
returns-in-Lookup-clause-ok g c =
    let l = c.args.instructions.now in
    let i = c.loop-instruction.instruction-index in
    λ others start h. rw c.in-Lookup.is at (c.in_ok-instruct.ensures.ok (drop (i + 1) l) others start
    (rw (instructions_at l i c.instruction-item.result c.instruction-item.is c.loop-instruction-test.true) at (c.loop-instruction.invariant others start h)))

pub loop-instruction-preserved : goal.loop-instruction-preserved
loop-instruction-preserved g c =
    let l = c.args.instructions.now in
    let i = c.loop-instruction.instruction-index in
    λ others start h. rw c.in-Continues.is at (c.in_ok-instruct.ensures.ok (drop (i + 1) l) others start
    (rw (instructions_at l i c.instruction-item.result c.instruction-item.is c.loop-instruction-test.true) at (c.loop-instruction.invariant others start h)))

pub returns-clause-ok : goal.returns-clause-ok
returns-clause-ok g c =
    let gone : drop c.loop-instruction.instruction-index c.args.instructions.now ≡ [] = drop_all c.loop-instruction.instruction-index c.args.instructions.now c.loop-instruction-test.false in
    λ others start h. rw gone at (c.loop-instruction.invariant others start h)
