use Rattle.std.{specs.List.flat_map, proofs.Common.◌≡◌, proofs.Common.◌++◌, proofs.Common.take}
use Rattle.of_switch.specs.Runs.{effects_in, reports_of}
use Rattle.of_serve.specs.Turns.{answer_in}
use Rattle.of_live.proofs.work.push_reports.Given as goal

abbrev pub invariant-loop-report : goal.invariant-loop-report
invariant-loop-report l = l.out ≡ l.initial.out ++ flat_map answer_in (effects_in (reports_of (take l.report-index l.reports)))
