use Rattle.std.proofs.Common.{◌∙◌, sym}
use Rattle.of_text.specs.Views.{view}
use Rattle.of_ovs_text.proofs.MatchLemmas.{match_of_bare}
use Rattle.of_ovs_text.proofs.flow.match_of.Goals as goal

pub to_match-requires : goal.to_match-requires
to_match-requires c = match_of_bare (view c.in_ok-bare.bare) (view c.args.flow.now) c.in_ok-bare.ensures c.requires (sym c.refusal_beside.ensures ∙ c.in-None.is)
