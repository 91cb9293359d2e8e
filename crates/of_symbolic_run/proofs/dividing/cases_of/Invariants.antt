use Rattle.std.specs.{List.Contains, Vec.Iter.into_iter_items}
use Rattle.of_symbolic.specs.{declared.branching.Branch.Branch, Branches.flows_listed}
use Rattle.of_symbolic_run.specs.Cases.{AreCasesOf, IsBranchOf}
use Rattle.of_symbolic_run.proofs.dividing.cases_of.Given as goal

abbrev pub invariant-loop-branch : goal.invariant-loop-branch
invariant-loop-branch l = record {
  made : AreCasesOf l.table (flows_listed l.listed) l.frames l.state l.yielded l.cases.items;
  each : (b : Branch) → Contains (into_iter_items l.branch-iterator) b → IsBranchOf l.frames.part b;
}
