use Rattle.std.proofs.Common.{◌≡◌, ◌++◌, ◌*◌, length, take}
use Rattle.std.specs.List.{flat_map}
use Rattle.of_messages.specs.Written.{port_bytes}
use Rattle.of_statistics.specs.Ports.{described}
use Rattle.of_statistics.proofs.ports.put_descriptions.Given as goal

abbrev pub invariant-loop-port : goal.invariant-loop-port
invariant-loop-port l = record {
  text : l.out.items ≡ l.fn.out.items ++ flat_map (λ p. port_bytes (described p)) (take l.port-index l.ports);
  size : length (flat_map (λ p. port_bytes (described p)) (take l.port-index l.ports)) ≡ 64 * l.port-index;
}
