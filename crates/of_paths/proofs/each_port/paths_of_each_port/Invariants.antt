use Rattle.std.proofs.Common.{take}
use Rattle.of_datapath.specs.{Datapath.world_of, Numbers.forwarding_of}
use Rattle.of_paths.specs.EachPort.{ArePathsOfPorts, receiving_numbers}
use Rattle.of_paths.proofs.each_port.paths_of_each_port.Given as goal

abbrev pub invariant-loop-port : goal.invariant-loop-port
invariant-loop-port g l =
    ArePathsOfPorts l.merging (world_of (forwarding_of l.datapath)) l.within l.steps (receiving_numbers (take l.port-index l.port-items)) l.found.classes.items l.found.undecided.items
