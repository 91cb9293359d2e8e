use Rattle.std.{specs.Prelude.map, proofs.Common.◌≡◌, proofs.Common.◌++◌, proofs.Common.take}
use Rattle.of_text.specs.Views.{view_flows}
use Rattle.of_import.specs.declared.parsed_lines.FlowLine.{FlowLine}
use Rattle.of_import.proofs.import.copy_flows.Given as goal

abbrev pub invariant-loop-it : goal.invariant-loop-it
invariant-loop-it l = record {
  lines : l.lines.items ≡ l.initial.lines.items ++ map (λ (f : FlowLine). f.line) (take l.it-index l.flows);
  flows : view_flows l.made.items ≡ view_flows (map (λ (f : FlowLine). f.flow) (take l.it-index l.flows));
}
