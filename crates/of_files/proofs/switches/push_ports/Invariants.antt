use Rattle.std.proofs.Common.{◌≡◌, ◌++◌, map, take}
use Rattle.of_files.proofs.switches.push_ports.Given as goal

abbrev pub invariant-loop-port : goal.invariant-loop-port
invariant-loop-port l = l.ports.items ≡ l.fn.ports.items ++ map (λ p. p.number) (take l.port-index l.all)
