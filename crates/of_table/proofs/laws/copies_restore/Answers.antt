use Rattle.of_table.proofs.CopiedLemmas.{restored, restored_modified, unseen}
use Rattle.of_table.proofs.laws.copies_restore.Goals as goal

pub returns-clause-changed : goal.returns-clause-changed
returns-clause-changed c = restored

pub returns-clause-modified : goal.returns-clause-modified
returns-clause-modified c = restored_modified

pub returns-clause-unchanged : goal.returns-clause-unchanged
returns-clause-unchanged c = unseen
