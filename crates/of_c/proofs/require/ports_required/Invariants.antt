use Rattle.std.{specs.List.flat_map, proofs.Common.◌≡◌, proofs.Common.◌++◌, proofs.Common.drop}
use Rattle.of_c.specs.Requiring.{named_by_line}
use Rattle.of_c.proofs.require.ports_required.Given as goal

abbrev pub invariant-loop-line : goal.invariant-loop-line
invariant-loop-line l = l.ports.items ++ flat_map named_by_line (drop l.line-index l.lines) ≡ flat_map named_by_line l.lines
