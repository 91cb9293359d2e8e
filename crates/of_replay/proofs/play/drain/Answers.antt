use Rattle.of_switch.{specs.Steps.gives, proofs.Draining.next_shorter, proofs.Draining.left_more, proofs.Draining.left_all}
use Rattle.of_replay.proofs.play.drain.Goals as goal

pub returns-in-None-clause-all : goal.returns-in-None-clause-all
returns-in-None-clause-all g c =
    let none = rw c.in-None.is at c.in_ok-next.ensures in
    rw none.1 (left_all c.args.switch.now c.loop-effects.switch c.loop-effects.effects.items none.0 c.loop-effects.invariant)

pub loop-effects-smaller : goal.loop-effects-smaller
loop-effects-smaller g c =
    let some = rw c.in-Some.is at c.in_ok-next.ensures in
    next_shorter c.loop-effects.switch (gives c.in-Some.more.items c.next.new.self) some.0

pub loop-effects-preserved : goal.loop-effects-preserved
loop-effects-preserved g c =
    let some = rw c.in-Some.is at c.in_ok-next.ensures in
    rw c.in_ok-append-in-Some.ensures (left_more c.args.switch.now c.loop-effects.switch c.loop-effects.effects.items (gives c.in-Some.more.items c.next.new.self) some.0 c.loop-effects.invariant)
