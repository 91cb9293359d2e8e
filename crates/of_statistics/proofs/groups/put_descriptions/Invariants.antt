use Rattle.std.proofs.Common.{◌≡◌, map, take}
use Rattle.of_statistics.specs.{Replies.with_rows, Groups.group_description}
use Rattle.of_statistics.proofs.groups.put_descriptions.Given as goal

abbrev pub invariant-loop-group : goal.invariant-loop-group
invariant-loop-group l = l.out ≡ with_rows l.fn.out (map group_description (take l.group-index l.groups))
