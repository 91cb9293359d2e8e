use Rattle.std.proofs.Common.{◌≡◌, ◌≤◌, ◌+◌, ◌*◌, ◌++◌, drop}
use Rattle.of_text.specs.Configs.{all_flows}
use Rattle.of_build.specs.Listing.{flow_adds}
use Rattle.of_build.proofs.listing.push_tables.Given as goal

abbrev pub invariant-loop-table : goal.invariant-loop-table
invariant-loop-table l = record {
  few : l.xid ≤ 769 + 4096 * l.table;
  messages : l.out.items ++ flow_adds l.xid (all_flows (drop l.table l.config.tables)) ≡ l.fn.out.items ++ flow_adds l.first (all_flows l.config.tables);
}
