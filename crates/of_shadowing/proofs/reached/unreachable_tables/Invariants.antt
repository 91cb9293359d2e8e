use Rattle.std.proofs.Common.{◌≡◌, false, length}
use Rattle.of_shadowing.{specs.Reached.leaves_open, proofs.ReachedLemmas.IsRest}
use Rattle.of_shadowing.proofs.reached.unreachable_tables.Given as goal

abbrev pub decreases-loop-table : goal.decreases-loop-table
decreases-loop-table l = length l.tables.items

abbrev pub invariant-loop-table : goal.invariant-loop-table
invariant-loop-table l = record { known : leaves_open l.flows ≡ false; rest : IsRest l.flows l.tables.items }
