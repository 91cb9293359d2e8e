-- Which PORT_STATUS messages the controller receives (OpenFlow 1.3.5, 7.2.1 and 7.4.3).
use Rattle.std.specs.Prelude.{ℕ, ◌==◌, Bool, ◌&&◌, List, [], ◌∷◌, if◌then◌else◌}
use Rattle.of_messages.specs.declared.port_mod.PortStatusReason.{PortStatusReason}
use Rattle.of_messages.specs.declared.port_mod.PortStatusReason.TheVariants.{Add, Delete, Modify}
use Rattle.of_messages.specs.Written.{port_status_bytes}
use Rattle.of_ports.specs.{declared.port.Port.Port, Config.config_bits, Ports.state_bits}
use Rattle.of_statistics.specs.Ports.{described}
use Rattle.of_datapath.specs.{declared.control.AsyncConfig.AsyncConfig, Told.asynchronous_effects, declared.effect.Effect.Effect, declared.effect.Effect.TheVariants.Answer}

-- an asynchronous message has the transaction id 0
abbrev pub status : PortStatusReason → Port → Effect
status reason p = Answer (port_status_bytes 0 reason (described p))

-- a port's number, address and name never change, so its descriptions differ in its configuration and its state alone
abbrev pub is_shown_alike : Port → Port → Bool
is_shown_alike old new = (config_bits old.config == config_bits new.config) && (state_bits old == state_bits new)

abbrev pub status_bit : PortStatusReason → ℕ
status_bit Add = 1
status_bit Delete = 2
status_bit Modify = 4

-- sent where the controller's mask has this reason
abbrev pub status_told : AsyncConfig → PortStatusReason → Port → List Effect
status_told heard reason p = asynchronous_effects heard.port_status (status_bit reason) (status reason p ∷ [])

-- a change is sent where the 64 bytes of the port's description change
abbrev pub change_told : AsyncConfig → Port → Port → List Effect
change_told heard old new = if is_shown_alike old new then [] else status_told heard Modify new
