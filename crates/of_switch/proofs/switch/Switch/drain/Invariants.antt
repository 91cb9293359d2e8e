use Rattle.std.proofs.Common.{◌≡◌, ◌+◌, ◌≤◌, length, vec_len, vec_capacity}
use Rattle.of_switch.proofs.Draining.{Left}
use Rattle.of_switch.proofs.switch.Switch.drain.Given as goal

abbrev pub invariant-loop-reports : goal.invariant-loop-reports
invariant-loop-reports g l = record {
  left : Left l.fn.self l.self l.effects.items;
  kept : l.reports.items ≡ l.fn.reports.items;
  room : vec_len l.reports + 2 ≤ vec_capacity l.reports;
}

abbrev pub decreases-loop-reports : goal.decreases-loop-reports
decreases-loop-reports g l = length l.self.connection.pending
