-- The invariants of the ports of a switch.
use Rattle.std.specs.Prelude.{◌≤◌, List, length, IsTrue}
use Rattle.of_actions.specs.Rising.{is_ascending}
use Rattle.of_ports.specs.{declared.port.Port.Port, Ports.number_of_port}

pub record AreSoundPorts (ports : List Port) : Type 0 where
  -- in ascending order, so no two have the same number
  pub rising : IsTrue (is_ascending number_of_port ports)
  pub few : length ports ≤ 64
