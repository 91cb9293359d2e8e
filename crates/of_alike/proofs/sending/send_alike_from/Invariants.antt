use Rattle.std.{specs.List.All, proofs.Common.take}
use Rattle.of_alike.specs.Emitting.{IsAlikeBy}
use Rattle.of_alike.proofs.sending.send_alike_from.Given as goal

abbrev pub invariant-loop-port : goal.invariant-loop-port
invariant-loop-port l = All (IsAlikeBy l.ingress l.a l.b) (take l.port-index l.ports)
