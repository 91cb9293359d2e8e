use Rattle.std.{specs.Prelude.map, proofs.Common.◌≡◌, proofs.Common.take}
use Rattle.of_groups.specs.{declared.group.Group.Group, Groups.is_there}
use Rattle.of_groups.proofs.listed.first_marks.Given as goal

abbrev pub invariant-loop-group : goal.invariant-loop-group
invariant-loop-group l = l.marks.items ≡ map (λ (g : Group). is_there g.id l.groups) (take l.group-index l.groups)
