use Rattle.of_replay.proofs.FileLemmas.{read_nothing, read_stopped, read_whole}
use Rattle.of_sockets.specs.FileRows.{served_file}
use Rattle.of_sockets.proofs.event_rows.read_rows.Goals as goal

pub returns-in_default-clause-rows : goal.returns-in_default-clause-rows
returns-in_default-clause-rows g c = read_nothing served_file (g.S.Source.answers c.args.reader.now) (g.S.Source.ends c.args.reader.now)

pub returns-in-Err-clause-rows : goal.returns-in-Err-clause-rows
returns-in-Err-clause-rows g c =
    let r = c.read_file in
    rw c.ended_by.ensures (read_stopped served_file (λ file outcome is. is) c.in-Err.halt (g.S.Source.answers c.args.reader.now) (g.S.Source.answers r.new.reader) (g.S.Source.ends c.args.reader.now) (g.S.Source.ends r.new.reader) _ c.in-Err.ensures.gave)

pub returns-clause-rows : goal.returns-clause-rows
returns-clause-rows g c =
    let r = c.read_file in
    read_whole served_file c.rows_in.result (g.S.Source.answers c.args.reader.now) (g.S.Source.answers r.new.reader) (g.S.Source.ends c.args.reader.now) (g.S.Source.ends r.new.reader) r.new.file.items c.in-Ok-read_file.ensures.gave (rw c.deref.ensures.value at c.rows_in.ensures)
