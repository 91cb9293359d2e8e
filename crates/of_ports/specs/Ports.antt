-- The ports of a switch, in ascending order of number (OpenFlow 1.3.5, 4.1 and 7.2.1).
use Rattle.std.specs.Prelude.{ℕ, ◌+◌, ◌==◌, nat_lt, Bool, false, not, ◌&&◌, List, ◌∷◌, ◌++◌, Option, map, find, filter, if◌then◌else◌}
use Rattle.std.specs.Option.{option_map_or}
use Rattle.of_wire.specs.Numbered.{is_used, without as without_number}
use Rattle.of_ports.specs.{declared.config.PortConfig.PortConfig, declared.counters.PortCount.PortCount, declared.port.Port.Port, Config.no_config, Counters.no_counters, Counters.tally}

-- ---- a port

abbrev pub number_of_port : Port → ℕ
number_of_port p = p.number

-- a port that is added: no bit of its configuration is set, and nothing is counted
abbrev pub new_port : ℕ → List ℕ → List ℕ → Bool → ℕ → Port
new_port number hw name up created = record { number = number; hw = hw; name = name; config = no_config; is_link_up = up; created = created; counters = no_counters }

-- a port is live where it is neither down nor without a link
abbrev pub is_live : Port → Bool
is_live p = p.is_link_up && not p.config.is_down

abbrev pub may_send : Port → Bool
may_send p = is_live p && not p.config.no_forward

abbrev pub may_receive : Port → Bool
may_receive p = is_live p && not p.config.no_receive

-- OFPPS_LINK_DOWN is 1, OFPPS_LIVE is 4
abbrev pub state_bits : Port → ℕ
state_bits p = (if p.is_link_up then 0 else 1) + (if is_live p then 4 else 0)

-- ---- the ports

-- the port of that number
abbrev pub port_at : List Port → ℕ → Option Port
port_at ports n = find (λ q. q.number == n) ports

abbrev pub has_port : ℕ → List Port → Bool
has_port n ports = is_used number_of_port n ports

-- the port of that number exists and is live
abbrev pub is_live_at : List Port → ℕ → Bool
is_live_at ports n = option_map_or is_live (port_at ports n) false

-- the ports that may send, without that of a number
abbrev pub other_ports : List Port → ℕ → List Port
other_ports ports n = filter (λ q. may_send q && not (q.number == n)) ports

-- ---- changes

-- a port is inserted in order of number
abbrev pub with_port : Port → List Port → List Port
with_port p ports = filter (λ q. nat_lt q.number p.number) ports ++ p ∷ filter (λ q. nat_lt p.number q.number) ports

abbrev pub without_port : ℕ → List Port → List Port
without_port n ports = without_number number_of_port n ports

-- the port of a number is changed
abbrev pub changed_if : ℕ → (Port → Port) → Port → Port
changed_if n change q = if q.number == n then change q else q

abbrev pub changed_at_port : ℕ → (Port → Port) → List Port → List Port
changed_at_port n change ports = map (changed_if n change) ports

abbrev pub linked : Bool → Port → Port
linked up p = record p { is_link_up = up }

abbrev pub with_config : PortConfig → Port → Port
with_config config p = record p { config = config }

abbrev pub counting : PortCount → Port → Port
counting what p = record p { counters = tally what p.counters }

-- the port of a number counts this
abbrev pub all_counted : ℕ → PortCount → List Port → List Port
all_counted n what ports = changed_at_port n (counting what) ports
