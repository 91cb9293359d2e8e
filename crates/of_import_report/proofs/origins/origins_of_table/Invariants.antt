use Rattle.std.{specs.Prelude.map, specs.List.flat_map, proofs.Common.◌≡◌, proofs.Common.◌++◌, proofs.Common.drop}
use Rattle.of_values.specs.Origins.{view_origin}
use Rattle.of_import_report.specs.FlowOrigins.{flow_origins_in, origin_in}
use Rattle.of_import_report.proofs.origins.origins_of_table.Given as goal

abbrev pub invariant-loop-it : goal.invariant-loop-it
invariant-loop-it l = map view_origin l.origins.items ++ flat_map (origin_in l.table) (drop l.it-index l.flows) ≡ flow_origins_in l.table l.flows
