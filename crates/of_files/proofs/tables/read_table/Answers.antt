use Rattle.std.proofs.Common.{◌∙◌, ap, refl}
use Rattle.of_import_report.specs.FlowOrigins.{flow_origins_below}
use Rattle.of_files.proofs.tables.read_table.Goals as goal

pub returns-clause-found : goal.returns-clause-found
returns-clause-found c = record {
  kept = c.in_ok-config.field-0.kept;
  imported = c.in_ok-config.ensures.found;
  refused = refl;
  origins = c.in_ok-origins.ensures ∙ ap (flow_origins_below 16) c.deref.ensures.value;
}
