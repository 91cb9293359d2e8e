use Rattle.of_live.proofs.Recording.{rows_are, read_are}
use Rattle.of_live.proofs.laws.logs_are_read.Goals as goal

pub returns-clause-rows : goal.returns-clause-rows
returns-clause-rows c = rows_are

pub returns-clause-read : goal.returns-clause-read
returns-clause-read c = read_are c.written_rows_are_read.ensures.file
