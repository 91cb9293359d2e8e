-- What peers and a clock in memory record.
use Rattle.std.specs.Prelude.{◌+◌, List, ◌++◌, map, take, replicate}
use Rattle.of_replay.specs.Told.{Gave, Idle, Ended, Failed}
use Rattle.of_test_peers.specs.{declared.peers.Line.Line, declared.peers.MemoryPeers.MemoryPeers}
use Rattle.of_test_peers.specs.declared.peers.Line.TheVariants as line
use Rattle.of_serve.specs.Told.{PeerCame, Opened, Answered}

abbrev pub line_came : Line → PeerCame
line_came line.Open = Opened
line_came line.Idle = Answered Idle
line_came (line.Gives bytes) = Answered (Gave bytes)
line_came line.End = Answered Ended
line_came line.Fault = Answered Failed

-- the lines of the script that were answered, then the faults after its end
abbrev pub peers_came : MemoryPeers → List PeerCame
peers_came p = map line_came (take p.at p.script.items) ++ replicate (p.late_accepts + p.late_reads) (Answered Failed)
