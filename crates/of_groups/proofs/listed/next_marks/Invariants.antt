use Rattle.std.{specs.Prelude.map, specs.Option.option_map_or, proofs.Common.◌≡◌, proofs.Common.false, proofs.Common.take}
use Rattle.of_groups.specs.{declared.group.Group.Group, Groups.find_group, Groups.any_named, Rounds.mark_at}
use Rattle.of_groups.proofs.listed.next_marks.Given as goal

abbrev pub invariant-loop-group : goal.invariant-loop-group
invariant-loop-group l = l.marks.items ≡ map (λ (g : Group). option_map_or (any_named (mark_at l.groups l.before)) (find_group g.id l.groups) false) (take l.group-index l.groups)
