use Rattle.of_text.proofs.WireLemmas.{field_as_on_wire, action_as_on_wire}
use Rattle.of_text.proofs.refusals.refused_as_on_the_wire.Goals as goal

pub returns-clause-field : goal.returns-clause-field
returns-clause-field c = field_as_on_wire

pub returns-clause-action : goal.returns-clause-action
returns-clause-action c = action_as_on_wire
