use Rattle.std.proofs.Common.{◌≡◌, ◌++◌}
use Rattle.of_check.specs.Remarks.{remarks_below}
use Rattle.of_check.proofs.remarks.push_tables.Given as goal

abbrev pub invariant-loop-table : goal.invariant-loop-table
invariant-loop-table l = l.out.items ≡ l.fn.out.items ++ remarks_below l.config.tables l.table
