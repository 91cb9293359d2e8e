use Rattle.std.proofs.Common.{◌≡◌}
use Rattle.of_check.specs.Tables.{reached_below}
use Rattle.of_check.proofs.tables.reached_tables.Given as goal

abbrev pub invariant-loop-table : goal.invariant-loop-table
invariant-loop-table l = l.reached.items ≡ reached_below l.config.tables l.table
