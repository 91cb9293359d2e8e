use Rattle.of_laws.proofs.ActionStructs.{type_listed, types_have_actions}
use Rattle.of_laws.proofs.messages.action_types_are_all.Goals as goal

pub returns-clause-listed : goal.returns-clause-listed
returns-clause-listed c = type_listed

pub returns-clause-only : goal.returns-clause-only
returns-clause-only c = types_have_actions
