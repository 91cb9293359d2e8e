use Rattle.std.{specs.List.flat_map, proofs.Common.◌≡◌, proofs.Common.◌++◌, proofs.Common.drop, proofs.Common.map}
use Rattle.of_text.specs.Views.{view}
use Rattle.of_ovs_text.specs.Flows.{flow_line}
use Rattle.of_ovs_text.proofs.flows.push_flow_lines.Given as goal

abbrev pub invariant-loop-flow : goal.invariant-loop-flow
invariant-loop-flow l = l.out.items ++ flat_map flow_line (map view (drop l.flow-index l.flows)) ≡ l.fn.out.items ++ flat_map flow_line (map view l.flows)
