use Rattle.std.proofs.Common.{◌≡◌}
use Rattle.of_values.specs.Origins.{view_origins}
use Rattle.of_import_report.specs.FlowOrigins.{flow_origins_below}
use Rattle.of_import_report.proofs.origins.table_origins.Given as goal

abbrev pub invariant-loop-table : goal.invariant-loop-table
invariant-loop-table l = view_origins l.origins.items ≡ flow_origins_below l.table l.flows
