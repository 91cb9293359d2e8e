use Rattle.std.proofs.Common.{◌≡◌, length}
use Rattle.of_history.specs.Changes.{HasLinesOf, has_line}
use Rattle.of_history.proofs.differing.after_line.Given as goal

abbrev pub invariant-loop-rest : goal.invariant-loop-rest
invariant-loop-rest l = record {
  there : has_line l.text l.line ≡ has_line l.rest l.line;
  within : HasLinesOf l.text l.rest;
}

abbrev pub decreases-loop-rest : goal.decreases-loop-rest
decreases-loop-rest l = length l.rest
