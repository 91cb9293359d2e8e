use Rattle.std.{specs.Prelude.map, proofs.Common.◌≡◌, proofs.Common.◌++◌, proofs.Common.drop}
use Rattle.of_machine.specs.Rows.{works}
use Rattle.of_symbolic_run.specs.States.{work_for}
use Rattle.of_symbolic_run.proofs.entering.instruction_works.Given as goal

abbrev pub invariant-loop-index : goal.invariant-loop-index
invariant-loop-index l = map work_for l.made.items ++ works (drop l.index l.instructions) ≡ works l.instructions
