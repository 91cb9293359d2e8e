-- WHY AN OUTPUT OR A GROUP SENDS NOTHING (OpenFlow 1.3.5, 4.5, 5.6.1 and 7.2.1).
use Rattle.std.specs.Prelude.{ℕ, ◌==◌, ◌||◌, Bool, List, [], ◌∷◌, ◌++◌, Option, Some, None, codes, decimal, if◌then◌else◌}
use Rattle.of_wire.specs.declared.limits.TheConstants.{OFPP_ALL, OFPP_CONTROLLER, OFPP_FLOOD, OFPP_IN_PORT, OFPP_TABLE}
use Rattle.of_actions.specs.{declared.action.Action.Action, declared.action.Action.TheVariants.Output, declared.action.Action.TheVariants.Group}
use Rattle.of_ports.specs.{declared.port.Port.Port, Ports.is_live, Ports.may_send, Ports.port_at}
use Rattle.of_datapath.specs.Datapath.{Forwarding, world_of}
use Rattle.of_values.specs.Filled.{filled}
use Rattle.of_trace.specs.declared.unsent.TheConstants.{CAME_IN, DOWN, FORWARDS_NOTHING, NO_BUCKET, NO_GROUP, NO_PORT}
use Rattle.of_trace.specs.declared.unsent.Unsent.{Unsent}
use Rattle.of_trace.specs.declared.unsent.Unsent.TheVariants as why

abbrev pub port_unsent : ℕ → Option Port → Option Unsent
port_unsent n None = Some (why.NoPort n)
port_unsent n (Some q) = if may_send q then None else if is_live q then Some (why.ForwardsNothing n) else Some (why.Down n)

-- several ports, or none of the switch
abbrev pub is_many : ℕ → Bool
is_many port = (port == OFPP_FLOOD) || (port == OFPP_ALL) || (port == OFPP_CONTROLLER) || (port == OFPP_TABLE)

abbrev pub output_unsent : List Port → ℕ → ℕ → Option Unsent
output_unsent ports ingress port =
    if port == OFPP_IN_PORT then port_unsent ingress (port_at ports ingress)
    else if is_many port then None
    else if port == ingress then Some why.CameIn
    else port_unsent port (port_at ports port)

-- by the buckets that run
abbrev pub group_unsent : ℕ → Option (List ℕ) → Option Unsent
group_unsent group None = Some (why.NoGroup group)
group_unsent group (Some []) = Some why.NoBucket
group_unsent group (Some (k ∷ places)) = None

-- of a frame that came in by this port
abbrev pub unsent_action : Forwarding → ℕ → Action → Option Unsent
unsent_action f ingress (Output port max_len) = output_unsent f.ports ingress port
unsent_action f ingress (Group group) = group_unsent group ((world_of f).chosen group)
unsent_action f ingress other = None

unfoldable pub unsent_words : Unsent → List ℕ
unsent_words (why.NoPort port) = filled NO_PORT (decimal port ∷ [])
unsent_words (why.Down port) = filled DOWN (decimal port ∷ [])
unsent_words (why.ForwardsNothing port) = filled FORWARDS_NOTHING (decimal port ∷ [])
unsent_words why.CameIn = filled CAME_IN []
unsent_words (why.NoGroup group) = filled NO_GROUP (decimal group ∷ [])
unsent_words why.NoBucket = filled NO_BUCKET []

-- at the end of a line
abbrev pub behind_line : Option Unsent → List ℕ
behind_line None = []
behind_line (Some u) = codes ": " ++ unsent_words u
