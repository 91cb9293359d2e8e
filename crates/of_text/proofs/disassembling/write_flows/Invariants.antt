use Rattle.std.{specs.List.AllByRecursion, proofs.Common.◌≡◌, proofs.Common.◌++◌, proofs.Common.drop}
use Rattle.of_lines.specs.Rows.{Fits}
use Rattle.of_text.{specs.Flows.rows_of_all_flows, specs.Views.view_flows, proofs.WriteLemmas.flows_text}
use Rattle.of_text.proofs.disassembling.write_flows.Given as goal

abbrev pub invariant-loop-flow : goal.invariant-loop-flow
invariant-loop-flow l = record {
  fits : AllByRecursion Fits (rows_of_all_flows (view_flows (drop l.flow-index l.flows)));
  text : l.out.items ++ flows_text (view_flows (drop l.flow-index l.flows)) ≡ l.fn.out.items ++ flows_text (view_flows l.flows);
}
