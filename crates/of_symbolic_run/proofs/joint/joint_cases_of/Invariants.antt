use Rattle.std.specs.{List.Contains, Vec.Iter.into_iter_items}
use Rattle.of_symbolic.specs.{declared.branching.Branch.Branch, Branches.flows_listed}
use Rattle.of_symbolic_run.specs.{Cases.AreCasesOf, Cases.IsBranchOf, JointCases.first_cases, JointCases.second_cases}
use Rattle.of_symbolic_run.proofs.joint.joint_cases_of.Given as goal

abbrev pub invariant-loop-branch : goal.invariant-loop-branch
invariant-loop-branch l = record {
  first : AreCasesOf l.table (flows_listed l.listed) l.frames l.first l.yielded (first_cases l.cases.items);
  second : AreCasesOf l.table (flows_listed l.listed) l.frames l.second l.yielded (second_cases l.cases.items);
  each : (b : Branch) → Contains (into_iter_items l.branch-iterator) b → IsBranchOf l.frames.part b;
}
