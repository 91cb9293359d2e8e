use Rattle.of_switch.specs.declared.event.Report.TheVariants as reported
use Rattle.of_switch.{specs.Runs.reports_of, specs.Steps.gives, proofs.Draining.next_shorter, proofs.Draining.left_more}
use Rattle.of_switch.proofs.Running.{reports_more, drains_all, drains_one, drains_two}
use Rattle.of_switch.proofs.switch.Switch.drain.Goals as goal

pub returns-in-Ok-None : goal.returns-in-Ok-None
returns-in-Ok-None g c =
    let l = c.loop-reports in
    let none = rw c.in-Ok-None.field-0-is at c.in-Ok-None.ensures.ok in
    let pushed = rw l.invariant.kept at c.push_reserved.ensures.items in
    rw none.1 (drains_all c.args.self.now l.self l.effects.items (reports_of c.args.reports.now.items) _ none.0 l.invariant.left (reports_more c.args.reports.now.items _ (reported.Gives l.effects) pushed))

pub returns-in-Err-append : goal.returns-in-Err-append
returns-in-Err-append g c =
    let l = c.loop-reports in
    let some = rw c.in-Ok-Some.field-0-is at c.in-Ok-Some.ensures.ok in
    let kept = c.in-Err-append.ensures.err in
    let first = rw (l.invariant.kept, kept.0) at c.push_reserved-in-Err-append.ensures.items in
    let second = rw kept.1 at c.push_reserved-in-Err-append-2.ensures.items in
    drains_two c.args.self.now c.handle_next.new.self l.effects.items c.in-Ok-Some.more.items c.in-Err-append.error (reports_of c.args.reports.now.items) _ _
    (left_more c.args.self.now l.self l.effects.items (gives c.in-Ok-Some.more.items c.handle_next.new.self) some.0 l.invariant.left)
    (reports_more c.args.reports.now.items _ (reported.Gives l.effects) first) (reports_more _ _ (reported.Gives c.in-Ok-Some.more) second)

pub loop-reports-smaller : goal.loop-reports-smaller
loop-reports-smaller g c =
    let some = rw c.in-Ok-Some.field-0-is at c.in-Ok-Some.ensures.ok in
    next_shorter c.loop-reports.self (gives c.in-Ok-Some.more.items c.handle_next.new.self) some.0

pub loop-reports-preserved-in_default : goal.loop-reports-preserved-in_default
loop-reports-preserved-in_default g c =
    let l = c.loop-reports in
    let some = rw c.in-Ok-Some.field-0-is at c.in-Ok-Some.ensures.ok in
    record {
      left = rw c.in_default.ensures.ok (left_more c.args.self.now l.self l.effects.items (gives c.in-Ok-Some.more.items c.handle_next.new.self) some.0 l.invariant.left);
      kept = l.invariant.kept;
      room = l.invariant.room;
    }

pub loop-reports-preserved : goal.loop-reports-preserved
loop-reports-preserved g c =
    let l = c.loop-reports in
    let some = rw c.in-Ok-Some.field-0-is at c.in-Ok-Some.ensures.ok in
    record {
      left = rw c.in_default.ensures.ok (left_more c.args.self.now l.self l.effects.items (gives c.in-Ok-Some.more.items c.handle_next.new.self) some.0 l.invariant.left);
      kept = l.invariant.kept;
      room = l.invariant.room;
    }

pub returns-in-Err : goal.returns-in-Err
returns-in-Err g c =
    let l = c.loop-reports in
    let pushed = rw l.invariant.kept at c.push_reserved-in-Err.ensures.items in
    rw c.in-Err.ensures.err (drains_one c.args.self.now l.self l.effects.items c.in-Err.error (reports_of c.args.reports.now.items) _ l.invariant.left (reports_more c.args.reports.now.items _ (reported.Gives l.effects) pushed))
