use Rattle.std.{specs.Prelude.map, proofs.Common.◌≡◌, proofs.Common.◌++◌}
use Rattle.of_table.specs.Entries.{flows_of}
use Rattle.of_text.specs.Views.{view_flows}
use Rattle.of_datapath.{specs.Loading.entry_text, proofs.ConfiguringLemmas.AreKept}
use Rattle.of_datapath.proofs.configuring.flows_text.Given as goal

abbrev pub invariant-loop-entry : goal.invariant-loop-entry
invariant-loop-entry l = record {
  made : view_flows l.flows.items ++ map (entry_text l.table) (flows_of l.entry-iterator) ≡ map (entry_text l.table) (flows_of l.fn.entries);
  kept : AreKept l.table l.entry-iterator → AreKept l.table l.fn.entries;
}
