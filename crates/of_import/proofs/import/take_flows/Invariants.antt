use Rattle.std.{specs.Prelude.map, proofs.Common.◌≡◌, proofs.Common.◌++◌}
use Rattle.of_import.proofs.import.take_flows.Given as goal

abbrev pub invariant-loop-it : goal.invariant-loop-it
invariant-loop-it l = record {
  lines : l.lines.items ≡ l.fn.lines.items ++ map (λ g. g.line) l.yielded;
  flows : l.made.items ≡ map (λ g. g.flow) l.yielded;
}
