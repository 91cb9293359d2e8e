use Rattle.std.{specs.List.All, proofs.Common.take}
use Rattle.of_alike.specs.Emitting.{IsAlikeFrom}
use Rattle.of_alike.proofs.leaving.first_ingress.Given as goal

abbrev pub invariant-loop-port : goal.invariant-loop-port
invariant-loop-port l = All (IsAlikeFrom l.compared l.ports l.frames l.a l.b) (take l.port-index l.ports)
