use Rattle.of_machine.proofs.Whole.{run_ends, step_lowers, lines_few, frame_fits, action_lines}
use Rattle.of_machine.{specs.Rows.Lookup, proofs.Ending.settled, proofs.Promises.list_few, proofs.Weighing.frame_steps}
use Rattle.std.proofs.Common.{◌∷◌, []}
use Rattle.of_machine.proofs.laws.every_run_ends.Goals as goal

pub returns-clause-ends : goal.returns-clause-ends
returns-clause-ends c = λ w p work sound fit. run_ends w sound p work fit

pub returns-clause-lowers : goal.returns-clause-lowers
returns-clause-lowers c = λ w m sound fit. step_lowers w sound m fit

pub returns-clause-settled : goal.returns-clause-settled
returns-clause-settled c = settled

pub returns-clause-lines : goal.returns-clause-lines
returns-clause-lines c = λ w p work k sound fit. lines_few w sound p work k fit

pub returns-clause-frame : goal.returns-clause-frame
returns-clause-frame c = λ w p k sound empty. lines_few w sound p (Lookup 0 ∷ []) k (frame_fits w sound p empty)

pub returns-clause-actions : goal.returns-clause-actions
returns-clause-actions c = λ w p l k sound empty served. action_lines w sound p l k empty (list_few l served)

pub returns-clause-number : goal.returns-clause-number
returns-clause-number c = frame_steps
