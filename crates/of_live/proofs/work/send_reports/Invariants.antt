use Rattle.std.{specs.List.flat_map, proofs.Common.◌≡◌, proofs.Common.take}
use Rattle.of_switch.specs.Runs.{effects_in, reports_of}
use Rattle.of_live.specs.{Acts.Records, Turns.sent_in}
use Rattle.of_live.proofs.work.send_reports.Given as goal

abbrev pub invariant-loop-report : goal.invariant-loop-report
invariant-loop-report g l = record {
  told : Records (g.N.Network.told l.initial.network) (flat_map (sent_in l.peers) (effects_in (reports_of (take l.report-index l.reports)))) (g.N.Network.told l.network);
  keeps : g.N.Network.keeps l.network ≡ g.N.Network.keeps l.initial.network;
}
