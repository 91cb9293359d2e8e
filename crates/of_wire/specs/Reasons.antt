-- The numbers of the reasons of asynchronous messages (OpenFlow 1.3.5, 7.4.1 and 7.4.2). In a controller's mask, a reason is the bit of its number (7.3.10).
use Rattle.std.specs.Prelude.{ℕ}
use Rattle.of_wire.specs.declared.reasons.PacketInReason.{PacketInReason}
use Rattle.of_wire.specs.declared.reasons.PacketInReason.TheVariants.{NoMatch, Action, InvalidTtl}
use Rattle.of_wire.specs.declared.reasons.FlowRemovedReason.{FlowRemovedReason}
use Rattle.of_wire.specs.declared.reasons.FlowRemovedReason.TheVariants.{IdleTimeout, HardTimeout, Delete, GroupDelete}

abbrev pub packet_in_number : PacketInReason → ℕ
packet_in_number NoMatch = 0
packet_in_number Action = 1
packet_in_number InvalidTtl = 2

abbrev pub flow_removed_number : FlowRemovedReason → ℕ
flow_removed_number IdleTimeout = 0
flow_removed_number HardTimeout = 1
flow_removed_number Delete = 2
flow_removed_number GroupDelete = 3
