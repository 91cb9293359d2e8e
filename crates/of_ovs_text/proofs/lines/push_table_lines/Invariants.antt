use Rattle.std.proofs.Common.{◌≡◌, ◌++◌}
use Rattle.of_ovs_text.specs.Lines.{flow_lines_below}
use Rattle.of_ovs_text.proofs.lines.push_table_lines.Given as goal

abbrev pub invariant-loop-table : goal.invariant-loop-table
invariant-loop-table l = l.out.items ≡ l.fn.out.items ++ flow_lines_below l.table l.config
