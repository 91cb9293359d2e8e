use Rattle.std.{specs.Prelude.map, proofs.Common.◌≡◌, proofs.Common.◌++◌, proofs.Common.drop}
use Rattle.of_machine.specs.Rows.{acts}
use Rattle.of_symbolic_run.specs.States.{work_for}
use Rattle.of_symbolic_run.proofs.stepping.works_of.Given as goal

abbrev pub invariant-loop-index : goal.invariant-loop-index
invariant-loop-index l = map work_for l.works.items ++ acts (drop l.index l.actions) ≡ acts l.actions
