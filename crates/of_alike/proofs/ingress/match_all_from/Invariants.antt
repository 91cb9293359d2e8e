use Rattle.std.{specs.List.All, proofs.Common.take}
use Rattle.of_alike.specs.IngressPorts.{MatchesAllFrom}
use Rattle.of_alike.proofs.ingress.match_all_from.Given as goal

abbrev pub invariant-loop-condition : goal.invariant-loop-condition
invariant-loop-condition l = All (MatchesAllFrom l.region l.port) (take l.condition-index l.conditions)
