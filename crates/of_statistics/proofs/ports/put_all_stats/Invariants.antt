use Rattle.std.{specs.List.flat_map, proofs.Common.◌≡◌, proofs.Common.◌++◌, proofs.Common.take}
use Rattle.of_statistics.specs.Ports.{port_row}
use Rattle.of_statistics.proofs.ports.put_all_stats.Given as goal

abbrev pub invariant-loop-port : goal.invariant-loop-port
invariant-loop-port l = l.out.items ≡ l.fn.out.items ++ flat_map (port_row l.now) (take l.port-index l.ports)
