use Rattle.std.proofs.Common.{take}
use Rattle.of_switch.specs.Runs.{RunsAll, reports_of}
use Rattle.of_switch.proofs.switch.Switch.run.Given as goal

abbrev pub invariant-loop-event : goal.invariant-loop-event
invariant-loop-event g l = RunsAll (take l.event-index l.events) l.fn.self l.self (reports_of l.fn.reports.items) (reports_of l.reports.items)
