use Rattle.std.proofs.Common.{◌≡◌, ◌++◌, drop}
use Rattle.of_text.specs.Views.{view_flows}
use Rattle.of_check.specs.Remarks.{flows_remarks}
use Rattle.of_check.proofs.remarks.push_flows.Given as goal

abbrev pub invariant-loop-place : goal.invariant-loop-place
invariant-loop-place l = l.out.items ++ flows_remarks l.config.tables l.table l.place (view_flows (drop l.place l.flows)) ≡ l.fn.out.items ++ flows_remarks l.config.tables l.table 0 (view_flows l.flows)
