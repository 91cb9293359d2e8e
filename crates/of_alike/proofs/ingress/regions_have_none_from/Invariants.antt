use Rattle.std.{specs.List.All, proofs.Common.take}
use Rattle.of_alike.specs.IngressPorts.{HasNoneFrom}
use Rattle.of_alike.proofs.ingress.regions_have_none_from.Given as goal

abbrev pub invariant-loop-region : goal.invariant-loop-region
invariant-loop-region l = All (HasNoneFrom l.lacks l.port) (take l.region-index l.regions)
