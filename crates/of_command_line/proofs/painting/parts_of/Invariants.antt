use Rattle.std.{specs.List.flat_map, proofs.Common.◌≡◌, proofs.Common.◌++◌, proofs.Common.length}
use Rattle.of_command_line.specs.Painted.{without_color}
use Rattle.of_command_line.proofs.painting.parts_of.Given as goal

abbrev pub decreases-loop-rest : goal.decreases-loop-rest
decreases-loop-rest l = length l.rest

abbrev pub invariant-loop-rest : goal.invariant-loop-rest
invariant-loop-rest l = flat_map without_color l.parts.items ++ l.rest ≡ l.fn.text
