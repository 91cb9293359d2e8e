-- What a controller has set in a switch, and which asynchronous messages it receives (OpenFlow 1.3.5, 7.3.2, 7.3.9 and 7.3.10).
use Rattle.std.specs.Prelude.{ℕ, ◌==◌, Bool, not, bit_and, None}
use Rattle.of_messages.specs.{declared.role.Role.Role, declared.role.Role.TheVariants.Equal, declared.role.Role.TheVariants.Master, declared.role.Role.TheVariants.Slave}
use Rattle.of_messages.specs.declared.async_masks.AsyncMasks.{AsyncMasks}
use Rattle.of_session.specs.{declared.session.Phase.Phase, declared.session.Phase.TheVariants.Disconnected, declared.session.Phase.TheVariants.Greeting, declared.session.Phase.TheVariants.Open}
use Rattle.of_datapath.specs.{declared.control.Control.Control, declared.control.AsyncConfig.AsyncConfig}

-- at first a master or an equal controller receives the messages of all reasons, and a slave those of PORT_STATUS alone
abbrev pub first_masks : AsyncMasks
first_masks = record { packet_in = record { master = 7; slave = 0 }; port_status = record { master = 7; slave = 7 }; flow_removed = record { master = 15; slave = 0 } }

abbrev pub new_control : Control
new_control = record { role = Equal; generation = None; masks = first_masks; config = record { miss_send_len = 128 } }

-- the role and the masks end with the connection; the generation_id and the configuration stay
abbrev pub released : Control → Control
released c = record c { role = Equal; masks = first_masks }

-- the masks of a role, and how many bytes of a frame are sent where no OUTPUT says it (7.3.2)
abbrev pub heard_for : Role → AsyncMasks → ℕ → AsyncConfig
heard_for Equal m miss_send_len = record { packet_in = m.packet_in.master; port_status = m.port_status.master; flow_removed = m.flow_removed.master; miss_send_len = miss_send_len }
heard_for Master m miss_send_len = record { packet_in = m.packet_in.master; port_status = m.port_status.master; flow_removed = m.flow_removed.master; miss_send_len = miss_send_len }
heard_for Slave m miss_send_len = record { packet_in = m.packet_in.slave; port_status = m.port_status.slave; flow_removed = m.flow_removed.slave; miss_send_len = miss_send_len }

abbrev pub heard_of : Control → AsyncConfig
heard_of c = heard_for c.role c.masks c.config.miss_send_len

-- no asynchronous message is sent before the controller's HELLO was accepted
abbrev pub nothing_heard : AsyncConfig
nothing_heard = record { packet_in = 0; port_status = 0; flow_removed = 0; miss_send_len = 0 }

abbrev pub heard_while : Phase → Control → AsyncConfig
heard_while Disconnected c = nothing_heard
heard_while Greeting c = nothing_heard
heard_while Open c = heard_of c

-- a mask lets a reason pass whose bit is set in it
abbrev pub lets_pass : ℕ → ℕ → Bool
lets_pass mask reason = not (bit_and mask reason == 0)
