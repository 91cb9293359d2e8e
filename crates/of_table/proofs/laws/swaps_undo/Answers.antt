use Rattle.of_table.proofs.CopiedLemmas.{swapped_back}
use Rattle.of_table.proofs.laws.swaps_undo.Goals as goal

pub returns-clause-tables : goal.returns-clause-tables
returns-clause-tables c = swapped_back
