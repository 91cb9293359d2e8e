use Rattle.std.{specs.List.fold, proofs.Common.◌≡◌, proofs.Common.[], proofs.Common.take}
use Rattle.of_shadowing.specs.Reached.{with_table_of}
use Rattle.of_shadowing.proofs.reached.later_tables.Given as goal

abbrev pub invariant-loop-flow : goal.invariant-loop-flow
invariant-loop-flow l = l.tables.items ≡ fold with_table_of [] (take l.flow-index l.flows)
