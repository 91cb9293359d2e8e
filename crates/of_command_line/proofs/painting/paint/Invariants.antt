use Rattle.std.{specs.List.flat_map, proofs.Common.◌≡◌, proofs.Common.◌++◌, proofs.Common.drop}
use Rattle.of_command_line.specs.Painted.{with_color}
use Rattle.of_command_line.proofs.painting.paint.Given as goal

abbrev pub invariant-loop-part : goal.invariant-loop-part
invariant-loop-part l = l.painted.items ++ flat_map with_color (drop l.part-index l.part-items) ≡ flat_map with_color l.part-items
