-- THE PORTS OF TWO SWITCHES (OpenFlow 1.3.5, 4.1 and 7.2.1).
use Rattle.std.specs.Prelude.{◌≡◌, ℕ, Bool, List, map}
use Rattle.of_ports.specs.{declared.port.Port.Port, Ports.is_live, Ports.may_receive, Ports.may_send}

-- what a port does with packets, and whether the controller is not told of those that match no entry (OFPPC_NO_PACKET_IN): its addresses, its name, its
-- counters and its age treat no packet otherwise
pub record PortKey : Type 0 where
  pub number : ℕ
  pub sends : Bool
  pub receives : Bool
  pub live : Bool
  pub silent : Bool

abbrev pub port_key : Port → PortKey
port_key p = record { number = p.number; sends = may_send p; receives = may_receive p; live = is_live p; silent = p.config.no_packet_in }

-- the same numbers in the same order, and each port does the same
abbrev pub SamePorts : List Port → List Port → Type 0
SamePorts ps qs = map port_key ps ≡ map port_key qs
