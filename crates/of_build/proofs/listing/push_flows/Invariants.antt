use Rattle.std.{specs.List.AllByRecursion, proofs.Common.◌≡◌, proofs.Common.◌+◌, proofs.Common.◌++◌, proofs.Common.drop}
use Rattle.of_text.specs.{Kept.IsEntry, Views.view_flows}
use Rattle.of_build.specs.Listing.{flow_adds}
use Rattle.of_build.proofs.listing.push_flows.Given as goal

abbrev pub invariant-loop-flow : goal.invariant-loop-flow
invariant-loop-flow l = record {
  count : l.next ≡ l.xid + l.flow-index;
  entries : AllByRecursion (IsEntry l.table) (view_flows (drop l.flow-index l.flows));
  messages : l.out.items ++ flow_adds l.next (view_flows (drop l.flow-index l.flows)) ≡ l.fn.out.items ++ flow_adds l.xid (view_flows l.flows);
}
