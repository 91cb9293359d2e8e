-- THE CONFIGURATION THAT MESSAGES GIVE: what a new switch has after they were sent to it, or the first that it answers by an ERROR.
use Rattle.std.specs.Prelude.{◌≡◌, ℕ, ◌+◌, ◌==◌, ◌&&◌, ◌||◌, nat_le, Bool, List, [], ◌∷◌, length, drop, Option, Some, None, Result, Ok, Err, if◌then◌else◌}
use Rattle.byteorder.specs.Endian.{big_number}
use Rattle.of_wire.specs.declared.code.Code.{Code}
use Rattle.of_formats.specs.declared.messages.TheConstants.{ERROR, FLOW_MOD, GROUP_MOD}
use Rattle.of_messages.specs.Heads.{type_of}
use Rattle.of_session.specs.{declared.session.Phase.TheVariants.Open, Stream.length_of}
use Rattle.of_text.specs.Configs.{Configuration}
use Rattle.of_build.specs.Building.{hello}
use Rattle.of_datapath.specs.{declared.effect.Effect.Effect, declared.effect.Effect.TheVariants.Answer, declared.effect.Effect.TheVariants.Sent, declared.effect.Effect.TheVariants.Closed}
use Rattle.of_switch.specs.{State.State, State.start, Steps.connected, Runs.chunk_in, Loading.config_of}
use Rattle.of_laws.specs.{declared.fault.ConfigFault.ConfigFault, declared.fault.ConfigFault.TheVariants.NotACommand, declared.fault.ConfigFault.TheVariants.Refused}

-- ---- what is sent, and what answers it

-- by its header a single whole GROUP_MOD or FLOW_MOD (OpenFlow 1.3.5, 7.1)
abbrev pub is_command : List ℕ → Bool
is_command m = nat_le 8 (length m) && (length_of m == length m && (type_of m == GROUP_MOD || type_of m == FLOW_MOD))

-- the code of an ERROR (7.4.4); None of another message
abbrev pub error_code_in : List ℕ → Option Code
error_code_in m = if type_of m == ERROR && nat_le 12 (length m) then Some (record { kind = big_number 2 (drop 8 m); code = big_number 2 (drop 10 m) }) else None

-- this, or else that
abbrev pub code_or_else : Option Code → Option Code → Option Code
code_or_else None other = other
code_or_else (Some code) other = Some code

-- the code of the first ERROR among effects
abbrev pub error_in : List Effect → Option Code
error_in [] = None
error_in (Answer m ∷ effects) = code_or_else (error_code_in m) (error_in effects)
error_in (Sent port frame ∷ effects) = error_in effects
error_in (Closed ∷ effects) = error_in effects

-- ---- a switch that is sent messages, one by one

-- a new switch with datapath_id 1, to which a controller connected that sent its HELLO (6.3.1)
unfoldable pub greeted : State
greeted = (chunk_in hello (connected (start 1)).state).state

-- the connection is open, and nothing waits
abbrev pub IsReady : State → Type 0
IsReady s = s.connection ≡ record { phase = Open; pending = [] }

-- what follows a message, unless that is answered by an ERROR
abbrev pub later_unless_refused : Option Code → ℕ → Result Configuration ConfigFault → Result Configuration ConfigFault
later_unless_refused None place later = later
later_unless_refused (Some code) place later = Err (Refused place code)

-- the configuration of the switch after the messages, of which the first has this place; or the first that is no command or is answered by an ERROR
abbrev pub config_from : ℕ → List (List ℕ) → State → Result Configuration ConfigFault
config_from place [] s = Ok (config_of s)
config_from place (m ∷ ms) s =
    let sent = chunk_in m s in
    if is_command m then later_unless_refused (error_in sent.effects) place (config_from (place + 1) ms sent.state) else Err (NotACommand place)

-- THE CONFIGURATION OF A LIST OF MESSAGES
unfoldable pub config_by : List (List ℕ) → Result Configuration ConfigFault
config_by messages = config_from 0 messages greeted
