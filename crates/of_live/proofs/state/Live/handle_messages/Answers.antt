use Rattle.std.proofs.Common.{arith}
use Rattle.of_live.proofs.Messages.{handled_begun, handled_more, handled_all, handled_until}
use Rattle.of_live.proofs.state.Live.handle_messages.Goals as goal

pub loop-init : goal.loop-init
loop-init g c = handled_begun c.args.most c.args.keeps c.args.self.now c.args.work.now

pub loop-preserved : goal.loop-preserved
loop-preserved g c =
    let l = c.loop in
    handled_more c.args.most l.counter c.args.keeps _ c.args.self.now l.self c.handle.new.self c.args.work.now l.work c.handle.new.work l.invariant c.in-Some.ensures.message
    c.in_ok-handle.ensures.live c.in_ok-handle.ensures.does

pub returns-in_default : goal.returns-in_default
returns-in_default g c =
    let l = c.loop in
    handled_until c.args.most l.counter c.args.keeps c.args.self.now l.self c.args.work.now l.work l.invariant c.loop-test.true c.in_default.ensures.message

pub returns : goal.returns
returns g c =
    let l = c.loop in
    handled_all c.args.most l.counter c.args.keeps c.args.self.now l.self c.args.work.now l.work l.invariant (omega (arith, l.auto, c.loop-test))
