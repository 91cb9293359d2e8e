-- The configuration of a port (OpenFlow 1.3.5, 7.2.1 and 7.3.4.3).
use Rattle.std.specs.Prelude.{ℕ, ◌+◌, ◌==◌, Bool, false, not, bit_and, if◌then◌else◌}
use Rattle.of_ports.specs.declared.config.PortConfig.{PortConfig}

-- OFPPC_PORT_DOWN, OFPPC_NO_RECV, OFPPC_NO_FWD and OFPPC_NO_PACKET_IN
abbrev pub port_down : ℕ
port_down = 1

abbrev pub no_recv : ℕ
no_recv = 4

abbrev pub no_fwd : ℕ
no_fwd = 32

abbrev pub no_packet_in : ℕ
no_packet_in = 64

-- no bit is set
abbrev pub no_config : PortConfig
no_config = record { is_down = false; no_receive = false; no_forward = false; no_packet_in = false }

abbrev pub bit_if : Bool → ℕ → ℕ
bit_if is_set bit = if is_set then bit else 0

-- its bits as a word
abbrev pub config_bits : PortConfig → ℕ
config_bits c = bit_if c.is_down port_down + bit_if c.no_receive no_recv + bit_if c.no_forward no_fwd + bit_if c.no_packet_in no_packet_in

abbrev pub has_bit : ℕ → ℕ → Bool
has_bit bit bits = not (bit_and bits bit == 0)

-- under the mask a bit is as in the new word, else it stays
abbrev pub bit_under_mask : ℕ → ℕ → ℕ → Bool → Bool
bit_under_mask bit config mask old = if has_bit bit mask then has_bit bit config else old

abbrev pub configured : ℕ → ℕ → PortConfig → PortConfig
configured config mask c = record {
  is_down = bit_under_mask port_down config mask c.is_down;
  no_receive = bit_under_mask no_recv config mask c.no_receive;
  no_forward = bit_under_mask no_fwd config mask c.no_forward;
  no_packet_in = bit_under_mask no_packet_in config mask c.no_packet_in;
}
