use Rattle.std.proofs.Common.{◌≡◌, ◌+◌, ◌++◌, ◌≤◌, length}
use Rattle.of_text.specs.Lines.{lines_of}
use Rattle.of_files.specs.FlowLines.{flow_lines, numbers_from}
use Rattle.of_files.proofs.flow_lines.flow_lines.Given as goal

abbrev pub decreases-loop-rest : goal.decreases-loop-rest
decreases-loop-rest l = length l.rest

abbrev pub invariant-loop-rest : goal.invariant-loop-rest
invariant-loop-rest l = record {
  found : l.numbers.items ++ numbers_from l.table l.number (lines_of l.rest) ≡ flow_lines l.table l.text;
  count : l.number + length l.rest ≤ length l.text;
}
