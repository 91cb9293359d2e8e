use Rattle.std.proofs.Common.{◌≡◌, ◌+◌, ◌≤◌, ◌++◌, length, map, Ok}
use Rattle.of_lines.specs.Lines.{lines_of}
use Rattle.of_ovs_words.specs.Outcomes.{◌>>=◌}
use Rattle.of_require.specs.RequirementFiles.{lines_said, requirements_in, view_line}
use Rattle.of_require.proofs.line.read_requirements.Given as goal

abbrev pub decreases-loop-rest : goal.decreases-loop-rest
decreases-loop-rest l = length l.rest

abbrev pub invariant-loop-rest : goal.invariant-loop-rest
invariant-loop-rest l = record {
  read : requirements_in l.file ≡ (lines_said (l.number + 1) (lines_of l.rest) >>= λ others. Ok (map view_line l.lines.items ++ others));
  count : l.number + length l.rest ≤ length l.file;
}
