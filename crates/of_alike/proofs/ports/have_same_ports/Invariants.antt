use Rattle.std.{specs.Slice.Iter.iter_rest, proofs.Common.drop, proofs.Common.map}
use Rattle.of_alike.specs.SamePorts.{port_key}
use Rattle.of_symbolic_run.proofs.Pairing.{SameIfLeft}
use Rattle.of_alike.proofs.ports.have_same_ports.Given as goal

abbrev pub invariant-loop-port : goal.invariant-loop-port
invariant-loop-port l = SameIfLeft (map port_key l.a) (map port_key l.b) (map port_key (drop l.port-index l.a)) (map port_key (iter_rest l.others))
