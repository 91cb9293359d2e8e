-- What ports count (OpenFlow 1.3.5, 5.8).
use Rattle.std.specs.Prelude.{ℕ, ◌+◌, ◌%◌, ◌^◌}
use Rattle.of_ports.specs.declared.counters.PortCount.TheVariants.{Received, ReceiveDropped, ReceiveError, Sent, SendDropped}
use Rattle.of_ports.specs.{declared.counters.PortCounters.PortCounters, declared.counters.PortCount.PortCount}

abbrev pub no_counters : PortCounters
no_counters = record { rx_packets = 0; tx_packets = 0; rx_bytes = 0; tx_bytes = 0; rx_dropped = 0; tx_dropped = 0; rx_errors = 0 }

-- a counter has 64 bits
abbrev pub plus : ℕ → ℕ → ℕ
plus counter n = (counter + n) % 2 ^ 64

abbrev pub tally : PortCount → PortCounters → PortCounters
tally (Received n) c = record c { rx_packets = plus c.rx_packets 1; rx_bytes = plus c.rx_bytes n }
tally ReceiveDropped c = record c { rx_dropped = plus c.rx_dropped 1 }
tally ReceiveError c = record c { rx_errors = plus c.rx_errors 1 }
tally (Sent n) c = record c { tx_packets = plus c.tx_packets 1; tx_bytes = plus c.tx_bytes n }
tally SendDropped c = record c { tx_dropped = plus c.tx_dropped 1 }
