use Rattle.std.proofs.Common.{◌≡◌, map, take}
use Rattle.of_table.specs.Tables.{tables_of}
use Rattle.of_statistics.specs.{Replies.with_rows, Groups.row_among}
use Rattle.of_statistics.proofs.groups.put_groups.Given as goal

abbrev pub invariant-loop-group : goal.invariant-loop-group
invariant-loop-group g l = l.out ≡ with_rows l.fn.out (map (row_among l.groups (tables_of l.tables)) (take l.group-index l.groups))
