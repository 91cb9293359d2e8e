use Rattle.std.proofs.Common.{◌≡◌, ◌+◌, ◌++◌, ◌∙◌, [], true, drop}
use Rattle.std.proofs.{lemmas.List.drop_all, lemmas.Result.err_from_is_err_and}
use Rattle.of_actions.specs.{declared.action.Action.TheVariants.Output, Supported.is_supported}
use Rattle.of_machine.{specs.Rows.acts, proofs.Promises.all_at, proofs.Moving.acts_at}
use Rattle.of_machine.proofs.runs.act_all_outside.Goals as goal

pub act_outside-requires-clause-served : goal.act_outside-requires-clause-served
act_outside-requires-clause-served g c =
    all_at (is_supported true) c.args.actions.now c.loop-action.action-index (Output 0 0) c.requires.served c.loop-action-test.true

pub returns-in_err-act_outside-clause-err : goal.returns-in_err-act_outside-clause-err
returns-in_err-act_outside-clause-err g c =
    let p = err_from_is_err_and c.from_residual.result c.from_residual.ensures.1 in
    let failed = rw c.loop-action.invariant.kept at c.in_err-act_outside.ensures.err in
    let l = c.args.actions.now in
    let i = c.loop-action.action-index in
    rw p.1 (λ rest others start h. failed (acts (drop (i + 1) l) ++ rest) others start
    (rw (acts_at l i (Output 0 0) c.loop-action-test.true) at (c.loop-action.invariant.so_far rest others start h)))

pub returns-in-Ended-clause-ok : goal.returns-in-Ended-clause-ok
returns-in-Ended-clause-ok g c =
    let acted = rw c.loop-action.invariant.kept at c.in_ok-act_outside.ensures.ok in
    let l = c.args.actions.now in
    let i = c.loop-action.action-index in
    λ rest others start h. rw c.in-Ended.is at (acted (acts (drop (i + 1) l) ++ rest) others start
    (rw (acts_at l i (Output 0 0) c.loop-action-test.true) at (c.loop-action.invariant.so_far rest others start h)))

pub loop-action-preserved : goal.loop-action-preserved
loop-action-preserved g c =
    let acted = rw c.loop-action.invariant.kept at c.in_ok-act_outside.ensures.ok in
    let l = c.args.actions.now in
    let i = c.loop-action.action-index in
    record {
      kept = c.in_ok-act_outside.ensures.kept ∙ c.loop-action.invariant.kept;
      content = c.in_ok-act_outside.ensures.content ∙ c.loop-action.invariant.content;
      so_far = λ rest others start h. rw c.in-Continues.is at (acted (acts (drop (i + 1) l) ++ rest) others start
          (rw (acts_at l i (Output 0 0) c.loop-action-test.true) at (c.loop-action.invariant.so_far rest others start h)));
    }

pub returns-clause-ok : goal.returns-clause-ok
returns-clause-ok g c =
    let gone : drop c.loop-action.action-index c.args.actions.now ≡ [] = drop_all c.loop-action.action-index c.args.actions.now c.loop-action-test.false in
    λ rest others start h. rw gone at (c.loop-action.invariant.so_far rest others start h)
