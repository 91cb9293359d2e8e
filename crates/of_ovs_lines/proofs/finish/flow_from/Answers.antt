use Rattle.of_ovs_lines.{specs.PartialFlowViews.view_partial_flow, proofs.SoundLemmas.flow_made, proofs.SoundLemmas.flow_sound}
use Rattle.of_ovs_lines.proofs.finish.flow_from.Goals as goal

pub returns-clause-sound : goal.returns-clause-sound
returns-clause-sound c = flow_made (view_partial_flow c.args.partial.now) c.args.fields.items _ c.requires.fields c.in_ok-instructions_from.ensures.instructions (flow_sound (view_partial_flow c.args.partial.now) (record { head = c.known_head.ensures; metadata = c.known_metadata.ensures; goto = c.known_goto.ensures }) c.requires.whole)
