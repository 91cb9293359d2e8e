use Rattle.of_replay.proofs.Marks.{mark_row, mark_text}
use Rattle.of_replay.proofs.laws.mark_changes_nothing.Goals as goal

pub returns-clause-row : goal.returns-clause-row
returns-clause-row c = mark_row

pub returns-clause-text : goal.returns-clause-text
returns-clause-text c = mark_text
