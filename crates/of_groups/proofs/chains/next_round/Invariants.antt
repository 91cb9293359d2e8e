use Rattle.std.{specs.Prelude.map, proofs.Common.◌≡◌, proofs.Common.take}
use Rattle.of_groups.specs.{Groups.any_named, Rounds.known_of}
use Rattle.of_groups.proofs.chains.next_round.Given as goal

abbrev pub invariant-loop-group : goal.invariant-loop-group
invariant-loop-group l = l.marks.items ≡ map (any_named (known_of l.round)) (take l.group-index l.round.groups.now)
