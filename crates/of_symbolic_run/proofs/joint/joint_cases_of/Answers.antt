use Rattle.std.{specs.List.Contains, specs.Vec.Iter.into_iter_items, proofs.Common.List, proofs.Common.[], proofs.Common.◌∷◌, proofs.Common.subst, proofs.lemmas.List.map-append}
use Rattle.of_symbolic.specs.{declared.branching.Branch.Branch, Branches.flows_listed}
use Rattle.of_symbolic_run.specs.{Cases.IsBranchOf, JointCases.first_case, JointCases.first_cases, JointCases.second_case, JointCases.second_cases}
use Rattle.of_symbolic_run.proofs.CaseLemmas.{left_branches, one_case}
use Rattle.of_symbolic_run.proofs.joint.joint_cases_of.Goals as goal

pub loop-branch-init : goal.loop-branch-init
loop-branch-init c = record {
  first = rw c.new-cases.ensures.items tt;
  second = rw c.new-cases.ensures.items tt;
  each = λ b there. c.requires.each b (subst (λ (l : List Branch). Contains l b) c.into_iter-branch-iterator.ensures.into_iter_gives.0 there);
}

pub joint_case_of-requires-clause-own : goal.joint_case_of-requires-clause-own
joint_case_of-requires-clause-own c =
    (left_branches (IsBranchOf c.args.frames.now.part) (into_iter_items c.loop-branch.branch-iterator) (into_iter_items c.next.new.self) c.in-Some.branch c.in-Some.ensures.steps.0 c.loop-branch.invariant.each).0

pub loop-branch-preserved : goal.loop-branch-preserved
loop-branch-preserved c =
    let flows = flows_listed c.args.listed.now in
    let cases = c.loop-branch.cases.items in
    let one = c.in_ok-joint_case_of.field-0 in
    record {
      first = rw (c.in_ok-push.ensures.items, map-append first_case cases (one ∷ [])) (one_case c.args.table flows c.args.frames.now c.args.first.now c.loop-branch.yielded (first_cases cases) c.in-Some.branch (first_case one) c.loop-branch.invariant.first c.in_ok-joint_case_of.ensures.first);
      second = rw (c.in_ok-push.ensures.items, map-append second_case cases (one ∷ [])) (one_case c.args.table flows c.args.frames.now c.args.second.now c.loop-branch.yielded (second_cases cases) c.in-Some.branch (second_case one) c.loop-branch.invariant.second c.in_ok-joint_case_of.ensures.second);
      each = (left_branches (IsBranchOf c.args.frames.now.part) (into_iter_items c.loop-branch.branch-iterator) (into_iter_items c.next.new.self) c.in-Some.branch c.in-Some.ensures.steps.0 c.loop-branch.invariant.each).1;
    }
