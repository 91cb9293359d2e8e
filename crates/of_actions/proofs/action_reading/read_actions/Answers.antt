use Rattle.of_actions.{specs.Actions.actions_of, proofs.ReaderLaws.items_only, proofs.ReaderLaws.items_exact, proofs.ActionsComputed.actions_computed}
use Rattle.of_actions.proofs.action_reading.read_actions.Goals as goal

pub returns-clause-only : goal.returns-clause-only
returns-clause-only c = items_only (actions_of c.args.packet_out) c.args.bytes.now c.parse_actions.result c.parse_actions.ensures.found c.parse_actions.ensures.refused

pub returns-clause-exact : goal.returns-clause-exact
returns-clause-exact c = items_exact (actions_of c.args.packet_out) c.args.bytes.now c.parse_actions.result c.parse_actions.ensures.found c.parse_actions.ensures.refused

pub returns-clause-reads : goal.returns-clause-reads
returns-clause-reads c = actions_computed c.args.packet_out c.args.bytes.now c.parse_actions.result c.parse_actions.ensures.found c.parse_actions.ensures.refused
