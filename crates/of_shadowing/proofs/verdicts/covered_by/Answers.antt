use Rattle.std.proofs.Common.{◌≡◌, [], ◌∷◌, ap, ◌∙◌, rules}
use Rattle.of_shadowing.{specs.Shadows.is_tie_of_flows, proofs.CoverLemmas.cover_takes}
use Rattle.of_shadowing.proofs.verdicts.covered_by.Goals as goal

pub returns : goal.returns
returns c steps =
    let items : c.push.new.self.items ≡ c.args.at ∷ [] = search rules in
    (rw items (cover_takes c.covered_is_matched.ensures c.args.flows.now c.args.at c.args.place c.requires.covers), c.is_tied-tie.ensures ∙ ap (is_tie_of_flows c.args.flows.now c.args.place) c.deref.ensures.value)
