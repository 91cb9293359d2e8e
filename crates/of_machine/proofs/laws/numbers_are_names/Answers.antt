use Rattle.of_machine.proofs.Renumbering.{run_is_renumbered}
use Rattle.of_machine.proofs.laws.numbers_are_names.Goals as goal

pub returns : goal.returns
returns c = λ number w v p work h. run_is_renumbered number w v h p work
