use Rattle.of_laws.proofs.{Refusing.actions_told, Refusing.match_told, RefusingFlows.instructions_told, RefusingMessages.flow_told, RefusingGroups.group_told}
use Rattle.of_laws.proofs.round_trip.texts_are_refused_as_messages.Goals as goal

pub returns-clause-actions : goal.returns-clause-actions
returns-clause-actions c = actions_told

pub returns-clause-fields : goal.returns-clause-fields
returns-clause-fields c = match_told

pub returns-clause-instructions : goal.returns-clause-instructions
returns-clause-instructions c = instructions_told

pub returns-clause-flow : goal.returns-clause-flow
returns-clause-flow c = flow_told

pub returns-clause-group : goal.returns-clause-group
returns-clause-group c = group_told
