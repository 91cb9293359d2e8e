use Rattle.std.{specs.List.Contains, specs.Vec.Iter.into_iter_items, proofs.Common.List, proofs.Common.[], proofs.Common.sym, proofs.Common.subst}
use Rattle.of_symbolic.specs.{declared.branching.Branch.Branch, Branches.flows_listed}
use Rattle.of_symbolic_run.{specs.Cases.AreCasesOf, specs.Cases.IsBranchOf, proofs.CaseLemmas.left_branches, proofs.CaseLemmas.one_case}
use Rattle.of_symbolic_run.proofs.dividing.cases_of.Goals as goal

pub loop-branch-init : goal.loop-branch-init
loop-branch-init c = record {
  made = subst (AreCasesOf c.args.table (flows_listed c.args.listed.now) c.args.frames.now c.args.state.now []) (sym c.new-cases.ensures.items) tt;
  each = λ b there. c.requires.each b (subst (λ (l : List Branch). Contains l b) c.into_iter-branch-iterator.ensures.into_iter_gives.0 there);
}

pub case_of-requires-clause-own : goal.case_of-requires-clause-own
case_of-requires-clause-own c =
    (left_branches (IsBranchOf c.args.frames.now.part) (into_iter_items c.loop-branch.branch-iterator) (into_iter_items c.next.new.self) c.in-Some.branch c.in-Some.ensures.steps.0 c.loop-branch.invariant.each).0

pub loop-branch-preserved : goal.loop-branch-preserved
loop-branch-preserved c = record {
  made = rw c.in_ok-push.ensures.items
      (one_case c.args.table (flows_listed c.args.listed.now) c.args.frames.now c.args.state.now c.loop-branch.yielded c.loop-branch.cases.items c.in-Some.branch c.in_ok-case_of.field-0 c.loop-branch.invariant.made c.in_ok-case_of.ensures);
  each = (left_branches (IsBranchOf c.args.frames.now.part) (into_iter_items c.loop-branch.branch-iterator) (into_iter_items c.next.new.self) c.in-Some.branch c.in-Some.ensures.steps.0 c.loop-branch.invariant.each).1;
}
