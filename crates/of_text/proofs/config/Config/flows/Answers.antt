use Rattle.std.proofs.Common.{◌<◌, ◌∙◌, length, ap, arith}
use Rattle.of_text.{specs.Views.view_flows, proofs.FillLemmas.config_sixteen, proofs.FillLemmas.lent_table}
use Rattle.of_text.proofs.config.Config.flows.Goals as goal

pub index-requires : goal.index-requires
index-requires c = omega (arith, config_sixteen c.self.inside.groups c.self.inside.tables c.self.invariant, c.requires, c.from.ensures)

pub returns : goal.returns
returns c =
    let lt : c.args.table < length c.self.inside.tables.items = omega (arith, config_sixteen c.self.inside.groups c.self.inside.tables c.self.invariant, c.requires) in
    rw (← c.self.view_is) (ap view_flows c.as_slice.ensures.value ∙ lent_table c.self.inside.tables.items c.args.table c.index.result.now _ lt (rw c.from.ensures at c.index.ensures))
