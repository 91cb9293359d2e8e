use Rattle.std.proofs.Common.{arith}
use Rattle.of_text.proofs.LineLemmas.{some_bytes, no_bytes}
use Rattle.of_sockets.proofs.FileLemmas.{rows_more, rows_bad, rows_all}
use Rattle.of_sockets.proofs.event_rows.rows_in.Goals as goal

pub returns-in-Ok-false : goal.returns-in-Ok-false
returns-in-Ok-false c =
    let l = c.loop-rest in
    let some = some_bytes l.rest.now c.is_empty.result c.is_empty.ensures c.loop-rest-test.true in
    let pushed = rw (c.in-Ok-false.field-0-test, c.cut.ensures.first) at c.in-Ok-false.ensures in
    rows_bad c.args.file.now l.rest.now l.events.items c.push_line.new.events.items l.number some l.invariant.rows pushed

pub loop-rest-preserved : goal.loop-rest-preserved
loop-rest-preserved c =
    let l = c.loop-rest in
    let some = some_bytes l.rest.now c.is_empty.result c.is_empty.ensures c.loop-rest-test.true in
    let pushed = rw (c.in-Ok-true.field-0-test, c.cut.ensures.first) at c.in-Ok-true.ensures in
    record {
      rows = rw c.cut.ensures.rest (rows_more c.args.file.now l.rest.now l.events.items c.push_line.new.events.items l.number some l.invariant.rows pushed);
      count = omega (arith, some, l.invariant.count, c.cut.ensures.shorter);
    }

pub returns : goal.returns
returns c =
    let l = c.loop-rest in
    rows_all c.args.file.now l.rest.now l.events.items l.number (no_bytes l.rest.now c.is_empty.result c.is_empty.ensures c.loop-rest-test.false) l.invariant.rows
