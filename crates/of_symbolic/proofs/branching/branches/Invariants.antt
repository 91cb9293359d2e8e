use Rattle.of_symbolic.proofs.BranchLemmas.{AreFirstBranches}
use Rattle.of_symbolic.proofs.branching.branches.Given as goal

abbrev pub invariant-loop-place : goal.invariant-loop-place
invariant-loop-place l = AreFirstBranches l.part l.pulled.items l.place l.out.items
