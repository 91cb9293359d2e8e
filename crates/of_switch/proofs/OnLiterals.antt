-- What an answer unfolds to compute runs of the switch on literal bytes.
use Rattle.std.specs.Prelude.{⊤}
use Rattle.of_wire.specs.Items.{items_from}
use Rattle.of_layers.specs.Fields.{field_at, row_of}
use Rattle.of_oxm.specs.{Canonical.canonical, MatchFieldWire.encoding, MatchReading.match_of, NormalForm.kept, Prerequisites.prerequisites_met}
use Rattle.of_actions.specs.{Headers.header_at, Headers.header_refusals, Actions.action_at, Actions.wire_action_refusals, Actions.type_refusals, Actions.actions_said}
use Rattle.of_actions.specs.{InstructionReading.instructions_in_bytes, RunOrder.in_run_order}
use Rattle.of_groups.specs.{Chains.chain, Chains.leads, Liveness.is_live_within}
use Rattle.of_messages.specs.{Buckets.bucket_of_bytes, Buckets.bucket_refusals, Buckets.buckets_said, GroupMods.command_of_group_mod, GroupMods.group_kind_of, Hellos.elements_of, Hellos.version_by}
use Rattle.of_messages.specs.{Messages.message_body, Messages.command_said, Messages.message_from, Written.flow_removed_fixed_part}
use Rattle.of_formats.specs.Messages.{message_row}
use Rattle.of_machine.specs.Weights.{copy_steps, action_steps, table_steps, set_steps, lookup_steps}
use Rattle.of_machine.specs.Runs.{run_of, until_none, step}
use Rattle.of_switch.specs.{Runs.drain, Steps.handled}

unfoldable pub switch_on_literals : ⊤
unfolding drain handled message_from message_body message_row command_said version_by elements_of match_of instructions_in_bytes items_from field_at row_of prerequisites_met kept header_at header_refusals action_at wire_action_refusals type_refusals actions_said in_run_order run_of until_none step copy_steps action_steps table_steps set_steps lookup_steps command_of_group_mod group_kind_of buckets_said bucket_refusals bucket_of_bytes leads chain is_live_within flow_removed_fixed_part canonical encoding
switch_on_literals = tt
