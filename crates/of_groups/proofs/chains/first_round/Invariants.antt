use Rattle.std.{specs.Prelude.map, proofs.Common.◌≡◌, proofs.Common.true, proofs.Common.take}
use Rattle.of_groups.specs.declared.group.Group.{Group}
use Rattle.of_groups.proofs.chains.first_round.Given as goal

abbrev pub invariant-loop-group : goal.invariant-loop-group
invariant-loop-group l = l.marks.items ≡ map (λ (g : Group). true) (take l._group-index l.groups)
