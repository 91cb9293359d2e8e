use Rattle.of_replay.proofs.EventRowsWritten.{file_again, row_again}
use Rattle.of_replay.proofs.laws.written_rows_are_read.Goals as goal

pub returns-clause-row : goal.returns-clause-row
returns-clause-row c row h = row_again row h.has h.short

pub returns-clause-file : goal.returns-clause-file
returns-clause-file c = file_again
