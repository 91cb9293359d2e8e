use Rattle.std.{specs.Borrow.Bor, proofs.Common.◌≡◌, proofs.Common.◌++◌, proofs.Common.map}
use Rattle.of_table.specs.declared.entry.Entry.{Entry}
use Rattle.of_symbolic_run.proofs.dividing.listed_entries.Given as goal

abbrev pub invariant-loop-entry : goal.invariant-loop-entry
invariant-loop-entry l = map (λ (x : Bor Entry). x.now) l.listed.items ++ l.entry-iterator ≡ l.fn.entries
