use Rattle.std.{specs.List.flat_map, proofs.Common.◌≡◌, proofs.Common.◌++◌, proofs.Common.drop, proofs.Common.map}
use Rattle.of_text.specs.Views.{view_group}
use Rattle.of_ovs_text.specs.Groups.{group_line}
use Rattle.of_ovs_text.proofs.groups.push_group_lines.Given as goal

abbrev pub invariant-loop-group : goal.invariant-loop-group
invariant-loop-group l = l.out.items ++ flat_map group_line (map view_group (drop l.group-index l.groups)) ≡ l.fn.out.items ++ flat_map group_line (map view_group l.groups)
