use Rattle.of_switch.{specs.Runs.reports_of, proofs.Running.on_err, proofs.Running.runs_more, proofs.Running.runs_stop, proofs.Running.runs_wait}
use Rattle.of_switch.proofs.switch.Switch.run.Goals as goal

pub returns-in_err-reserve-clause-err : goal.returns-in_err-reserve-clause-err
returns-in_err-reserve-clause-err g c =
    let l = c.loop-event in
    on_err c.from_residual.result _ (rw c.reserve.ensures.items
    (runs_wait c.args.events.now l.event-index c.event-item.result c.args.self.now l.self (reports_of c.args.reports.now.items) (reports_of l.reports.items) c.loop-event-test.true c.event-item.is l.invariant))

pub returns-in_err-happen-clause-err : goal.returns-in_err-happen-clause-err
returns-in_err-happen-clause-err g c =
    let l = c.loop-event in
    on_err c.from_residual-in_err-happen.result _
    (runs_stop c.args.events.now l.event-index c.event-item.result _ c.args.self.now l.self c.happen.new.self (reports_of c.args.reports.now.items) (reports_of l.reports.items) (reports_of c.happen.new.reports.items) c.loop-event-test.true c.event-item.is l.invariant
    (rw c.reserve.ensures.items at c.in_err-happen.ensures))

pub loop-event-preserved : goal.loop-event-preserved
loop-event-preserved g c =
    let l = c.loop-event in
    runs_more c.args.events.now l.event-index c.event-item.result c.args.self.now l.self c.happen.new.self (reports_of c.args.reports.now.items) (reports_of l.reports.items) (reports_of c.happen.new.reports.items) c.loop-event-test.true c.event-item.is l.invariant
    (rw c.reserve.ensures.items at c.in_ok-happen.ensures)
