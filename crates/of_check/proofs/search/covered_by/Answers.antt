use Rattle.std.proofs.Common.{◌≡◌, [], ◌∷◌, ap, ◌∙◌, rules}
use Rattle.of_table.specs.Tables.{table_at}
use Rattle.of_check.{specs.Verdicts.is_tie, proofs.CoverLemmas.cover_takes}
use Rattle.of_check.proofs.search.covered_by.Goals as goal

pub returns : goal.returns
returns g c steps =
    let flows = (table_at c.args.table c.args.switch.now.core.forwarding.tables).flows in
    let items : c.push.new.self.items ≡ c.args.at ∷ [] = search rules in
    (rw items (cover_takes c.covered_is_matched.ensures flows c.args.at c.args.place c.requires.covers), c.is_tied-tie.ensures ∙ ap (is_tie flows c.args.place) c.deref.ensures.value)
