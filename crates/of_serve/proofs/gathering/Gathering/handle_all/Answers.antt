use Rattle.of_serve.proofs.CutLemmas.{handled_begun, handled_more, handled_all, handled_some, on_err}
use Rattle.of_serve.proofs.gathering.Gathering.handle_all.Goals as goal

pub loop-init : goal.loop-init
loop-init g c = handled_begun c.args.self.now

pub loop-preserved : goal.loop-preserved
loop-preserved g c = handled_more c.args.self.now c.loop.self c.handle_next.new.self (rw c.if-not-branch.false at c.in_ok-handle_next.ensures.ok) c.loop.invariant

pub returns-then-not-branch-clause-ok : goal.returns-then-not-branch-clause-ok
returns-then-not-branch-clause-ok g c = handled_all c.args.self.now c.loop.self c.handle_next.new.self (rw c.if-not-branch.true at c.in_ok-handle_next.ensures.ok) c.loop.invariant

pub returns-in_err-handle_next-clause-err : goal.returns-in_err-handle_next-clause-err
returns-in_err-handle_next-clause-err g c =
    on_err c.from_residual.result _ (handled_some c.args.self.now c.loop.self c.handle_next.new.self c.in_err-handle_next.ensures.err c.loop.invariant)
