use Rattle.std.proofs.Common.{◌≡◌, length}
use Rattle.of_text.specs.Lines.{lines_of}
use Rattle.of_ovs_lines.specs.PortNames.{number_or}
use Rattle.of_ovs_lines.proofs.port_names.number_or.Given as goal

abbrev pub decreases-loop-rest : goal.decreases-loop-rest
decreases-loop-rest l = length l.rest

abbrev pub invariant-loop-rest : goal.invariant-loop-rest
invariant-loop-rest l = number_or l.word l.name (lines_of l.list) ≡ number_or l.word l.name (lines_of l.rest)
