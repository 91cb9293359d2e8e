use Rattle.std.proofs.Common.{◌∙◌, ap, drop}
use Rattle.of_serve.proofs.TurnLemmas.{drop_one}
use Rattle.of_serve.proofs.rows.Rows.pass.Goals as goal

pub returns : goal.returns
returns c = drop_one c.self.inside.at c.self.inside.events.items ∙ ap (drop 1) c.self.view_is
