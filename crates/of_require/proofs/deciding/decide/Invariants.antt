use Rattle.std.proofs.Common.{map, take}
use Rattle.of_ports.specs.Ports.{number_of_port}
use Rattle.of_datapath.specs.{Datapath.world_of, Numbers.forwarding_of}
use Rattle.of_require.specs.Deciding.{IsDecisionFor}
use Rattle.of_require.proofs.deciding.decide.Given as goal

abbrev pub invariant-loop-port : goal.invariant-loop-port
invariant-loop-port g l = IsDecisionFor (map number_of_port (take l.port-index l.port-items)) (world_of (forwarding_of l.datapath)) l.requirement l.steps l.so_far
