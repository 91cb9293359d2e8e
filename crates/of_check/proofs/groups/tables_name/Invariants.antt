use Rattle.std.{specs.List.list_any, proofs.Common.◌≡◌, proofs.Common.false, proofs.Common.take}
use Rattle.of_check.specs.Groups.{table_names}
use Rattle.of_check.proofs.groups.tables_name.Given as goal

abbrev pub invariant-loop-table : goal.invariant-loop-table
invariant-loop-table l = list_any (table_names l.id) (take l.table l.config.tables) ≡ false
