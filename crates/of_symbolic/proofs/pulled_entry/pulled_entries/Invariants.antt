use Rattle.std.{specs.Prelude.map, proofs.Common.Bor, proofs.Common.drop}
use Rattle.of_table.specs.declared.entry.Entry.{Entry}
use Rattle.of_symbolic.{specs.Branches.flows_listed, proofs.PulledLemmas.IsPulledSoFar}
use Rattle.of_symbolic.proofs.pulled_entry.pulled_entries.Given as goal

abbrev pub invariant-loop-entry : goal.invariant-loop-entry
invariant-loop-entry l = IsPulledSoFar l.overlay l.metadata (flows_listed l.entries) (map (λ (e : Bor Entry). e.now) (drop l.entry-index l.entries)) l.pulled.items
