use Rattle.std.proofs.Common.{◌≡◌, drop}
use Rattle.of_ovs_lines.specs.LineContents.{trimmed}
use Rattle.of_ovs_lines.proofs.line.trimmed.Given as goal

abbrev pub invariant-loop-i : goal.invariant-loop-i
invariant-loop-i l = trimmed l.text ≡ trimmed (drop l.i l.text)
