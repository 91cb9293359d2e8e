use Rattle.std.proofs.Common.{◌≡◌}
use Rattle.of_values.specs.Origins.{view_origins}
use Rattle.of_files.specs.FlowLines.{text_origins_below}
use Rattle.of_files.proofs.flow_lines.text_origins.Given as goal

abbrev pub invariant-loop-table : goal.invariant-loop-table
invariant-loop-table l = view_origins l.origins.items ≡ text_origins_below l.table l.text
