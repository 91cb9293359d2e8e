use Rattle.std.{specs.Prelude.map, proofs.Common.◌≡◌, proofs.Common.take}
use Rattle.of_values.specs.Origins.{view_origin}
use Rattle.of_files.specs.FlowLines.{at_line}
use Rattle.of_files.proofs.flow_lines.origins_at.Given as goal

abbrev pub invariant-loop-number : goal.invariant-loop-number
invariant-loop-number l = map view_origin l.origins.items ≡ map at_line (take l.number-index l.numbers)
