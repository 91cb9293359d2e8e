use Rattle.std.proofs.Common.{sym, ◌∙◌}
use Rattle.of_cache.proofs.laws.regions_are_agreement.Goals as goal

pub returns-clause-agree : goal.returns-clause-agree
returns-clause-agree c = λ region key map holds also f. also f ∙ sym (holds f)

pub returns-clause-hold : goal.returns-clause-hold
returns-clause-hold c = λ region key map holds agrees f. agrees f ∙ holds f
