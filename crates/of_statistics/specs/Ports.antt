-- PORT_STATS and PORT_DESC (OpenFlow 1.3.5, 7.3.5.6 and 7.3.5.7): what ports count, and what they are.
use Rattle.std.specs.Prelude.{ℕ, List, [], ◌∷◌, take, drop, Option, Some, None}
use Rattle.std.specs.{List.flat_map, Option.option_to_list}
use Rattle.of_formats.specs.Structs.{written}
use Rattle.of_formats.specs.Tables as tables
use Rattle.of_messages.specs.{declared.port_mod.PortDescription.PortDescription, Written.port_bytes}
use Rattle.of_ports.specs.{declared.port.Port.Port, declared.counters.PortCounters.PortCounters, Config.config_bits, Ports.port_at, Ports.state_bits}
use Rattle.of_table.specs.Selecting.{nanoseconds_since}
use Rattle.of_statistics.specs.{Replies.reply, Durations.seconds}

-- tx_errors and all from there to the collisions are always 0
unfoldable pub port_row : ℕ → Port → List ℕ
port_row now p =
    written tables.port_stats
    (p.number ∷ p.counters.rx_packets ∷ p.counters.tx_packets ∷ p.counters.rx_bytes ∷ p.counters.tx_bytes ∷ p.counters.rx_dropped ∷ p.counters.tx_dropped
    ∷ p.counters.rx_errors ∷ 0 ∷ 0 ∷ 0 ∷ 0 ∷ 0 ∷ seconds now p.created ∷ nanoseconds_since now p.created ∷ [])

-- for contracts inside this crate: the fields from rx_packets to rx_errors
unfoldable pub port_counts : PortCounters → List ℕ
port_counts c =
    written (take 7 (drop 2 tables.port_stats))
    (c.rx_packets ∷ c.tx_packets ∷ c.rx_bytes ∷ c.tx_bytes ∷ c.rx_dropped ∷ c.tx_dropped ∷ c.rx_errors ∷ [])

-- a port by its number, or all of them
abbrev pub asked_ports : Option ℕ → List Port → List Port
asked_ports None ports = ports
asked_ports (Some n) ports = option_to_list (port_at ports n)

abbrev pub port_stats_bytes : ℕ → ℕ → Option ℕ → List Port → List ℕ
port_stats_bytes xid now which ports = reply xid 4 0 (flat_map (port_row now) (asked_ports which ports))

-- what the 64 bytes of a port show of it
abbrev pub described : Port → PortDescription
described p = record { number = p.number; hw = p.hw; name = p.name; config = config_bits p.config; state = state_bits p }

abbrev pub port_description_bytes : ℕ → List Port → List ℕ
port_description_bytes xid ports = reply xid 13 0 (flat_map (λ p. port_bytes (described p)) ports)
