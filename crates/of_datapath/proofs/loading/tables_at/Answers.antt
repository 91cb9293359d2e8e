use Rattle.std.proofs.Common.{◌∙◌}
use Rattle.of_datapath.proofs.LoadLemmas.{at_moment}
use Rattle.of_datapath.proofs.loading.tables_at.Goals as goal

pub returns : goal.returns
returns g c = c.remove.ensures.tables ∙ at_moment c.args.latest _ c.in_ok-tables.ensures
