use Rattle.std.proofs.Common.{◌≡◌, ◌++◌, false, length}
use Rattle.of_text.specs.Lines.{lines_of}
use Rattle.of_ovs_lines.specs.PortNames.{tokens, with_port_numbers}
use Rattle.of_ovs_lines.proofs.port_names.with_port_numbers.Given as goal

abbrev pub decreases-loop-rest : goal.decreases-loop-rest
decreases-loop-rest l = length l.rest

abbrev pub invariant-loop-rest : goal.invariant-loop-rest
invariant-loop-rest l = l.out.items ++ with_port_numbers (lines_of l.list) l.here (tokens false l.rest) ≡ with_port_numbers (lines_of l.list) false (tokens false l.text)
