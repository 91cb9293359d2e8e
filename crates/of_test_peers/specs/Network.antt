-- What a network in memory records.
use Rattle.std.specs.Prelude.{List, map, Option, Some, None, if◌then◌else◌}
use Rattle.of_switch.specs.declared.event.Event.TheVariants.{Ports}
use Rattle.of_test_peers.specs.{declared.network.Line.Line, declared.network.Passed.Passed, declared.network.MemoryNetwork.MemoryNetwork}
use Rattle.of_test_peers.specs.declared.network.Line.TheVariants as line
use Rattle.of_test_peers.specs.declared.network.Passed.TheVariants as passed
use Rattle.of_live.specs.Inputs.{Came, Time, Datagram, Opened, Heard, Ended, Ready, Row, Nothing, Fault}
use Rattle.of_live.specs.Acts.{Act, Told, Drops, Logs, Sends, Writes, Closes}

abbrev pub came_of_line : Line → Came
came_of_line (line.Time now) = Time now
came_of_line (line.Datagram from bytes) = Datagram from bytes
came_of_line line.Opened = Opened
came_of_line (line.Heard bytes) = Heard bytes
came_of_line line.Ended = Ended
came_of_line line.Ready = Ready
came_of_line (line.Port change) = Row (Ports change)
came_of_line line.Nothing = Nothing
came_of_line line.Fault = Fault

abbrev pub act_of : Passed → Act
act_of (passed.Told wanted told) = Told wanted (came_of_line told)
act_of (passed.Dropped why) = Drops why
act_of (passed.Logged rows whole) = Logs rows whole
act_of (passed.Sent to datagram) = Sends to datagram
act_of (passed.Written bytes taken failed) = Writes bytes taken failed
act_of passed.Closed = Closes

-- all that passed; nothing is known once memory ran out for it
abbrev pub passed_acts : MemoryNetwork → Option (List Act)
passed_acts n = if n.is_whole then Some (map act_of n.passed.items) else None
