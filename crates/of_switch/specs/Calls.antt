-- Calls on a switch: each is refused by the first refusal of its written order, or does what the abstract switch does; and one that runs out of memory leaves the switch as it was.
use Rattle.std.specs.Prelude.{◌≡◌, ℕ, nat_le, Bool, not, List, [], ◌∷◌, length, Option, Some, None, Result, Ok, Err, if◌then◌else◌}
use Rattle.of_wire.specs.declared.limits.TheConstants.{MOST_PORTS}
use Rattle.of_session.specs.Session.{is_disconnected}
use Rattle.of_switch.specs.declared.switch_error.SwitchError.TheVariants.{NoMemory, NotConnected, Connected, PortExists, NoSuchPort, TooManyPorts, BadPortNumber}
use Rattle.of_switch.specs.{declared.switch_error.SwitchError.SwitchError, declared.port_change.PortChange.PortChange}
use Rattle.of_switch.specs.{declared.port_change.PortChange.TheVariants.Add, declared.port_change.PortChange.TheVariants.Remove, declared.port_change.PortChange.TheVariants.Link, State.State}
use Rattle.of_actions.specs.PortNumbers.{is_number}
use Rattle.of_ports.specs.Ports.{has_port}

-- the numbers of the refusals; 2 is no longer used
abbrev pub error_number : SwitchError → ℕ
error_number NoMemory = 1
error_number NotConnected = 3
error_number Connected = 4
error_number PortExists = 5
error_number NoSuchPort = 6
error_number TooManyPorts = 7
error_number BadPortNumber = 8

-- What a call does: the refusal that applies, and nothing else; or what `does` says; or it runs out of memory, and does nothing else.
abbrev pub Call : {A : Type 0} → Option SwitchError → (A → State → Type 0) → State → Result A SwitchError → State → Type 0
Call (Some e) does old result new = (result ≡ Err e) × (new ≡ old)
Call None does old (Ok x) new = does x new
Call None does old (Err e) new = (e ≡ NoMemory) × (new ≡ old)

-- the first refusal that applies
abbrev pub first_error : List (Bool × SwitchError) → Option SwitchError
first_error [] = None
first_error (r ∷ rs) = if r.0 then Some r.1 else first_error rs

abbrev pub connect_refusal : State → Option SwitchError
connect_refusal s = first_error ((not (is_disconnected s.connection.phase), Connected) ∷ [])

abbrev pub feed_refusal : State → Option SwitchError
feed_refusal s = first_error ((is_disconnected s.connection.phase, NotConnected) ∷ [])

-- the number is checked first; a port that is added must not exist, and there are 64 ports at most; one that is removed or whose link changes must exist
abbrev pub absent_refusal : ℕ → State → Option SwitchError
absent_refusal number s =
    first_error ((not (is_number number), BadPortNumber)
    ∷ (not (has_port number s.core.forwarding.ports), NoSuchPort)
    ∷ [])

abbrev pub new_refusal : ℕ → State → Option SwitchError
new_refusal number s =
    first_error ((not (is_number number), BadPortNumber)
    ∷ (has_port number s.core.forwarding.ports, PortExists)
    ∷ (nat_le MOST_PORTS (length s.core.forwarding.ports), TooManyPorts)
    ∷ [])

abbrev pub port_refusal : PortChange → State → Option SwitchError
port_refusal (Add number hw name up) s = new_refusal number s
port_refusal (Remove number) s = absent_refusal number s
port_refusal (Link number up) s = absent_refusal number s
