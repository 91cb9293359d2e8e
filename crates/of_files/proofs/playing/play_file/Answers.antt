use Rattle.std.proofs.Common.{sym, ◌∙◌, arith}
use Rattle.of_text.proofs.LineLemmas.{some_bytes, no_bytes}
use Rattle.of_files.proofs.PlayLemmas.{play_more, play_bad, play_ends}
use Rattle.of_files.proofs.playing.play_file.Goals as goal

pub loop-rest-preserved : goal.loop-rest-preserved
loop-rest-preserved g c =
    let l = c.loop-rest in
    let some = some_bytes l.rest.now c.is_empty.result c.is_empty.ensures c.loop-rest-test.true in
    let played = rw (c.in-Ok-true.field-0-test, c.cut.ensures.first) at c.in-Ok-true.ensures in
    record {
      played = rw c.cut.ensures.rest (play_more c.args.most c.args.file.now l.rest.now l.switch c.play_line.new.switch l.number some (sym c.were_all.ensures ∙ c.if-were_all.false) l.invariant.played played);
      count = omega (arith, some, l.invariant.count, c.cut.ensures.shorter);
    }

pub returns-in-Ok-false : goal.returns-in-Ok-false
returns-in-Ok-false g c =
    let l = c.loop-rest in
    let some = some_bytes l.rest.now c.is_empty.result c.is_empty.ensures c.loop-rest-test.true in
    let played = rw (c.in-Ok-false.field-0-test, c.cut.ensures.first) at c.in-Ok-false.ensures in
    play_bad c.args.most c.args.file.now l.rest.now l.switch c.play_line.new.switch l.number some (sym c.were_all.ensures ∙ c.if-were_all.false) l.invariant.played played

pub returns : goal.returns
returns g c =
    let l = c.loop-rest in
    play_ends c.args.most c.args.file.now l.rest.now l.switch l.number (no_bytes l.rest.now c.is_empty.result c.is_empty.ensures c.loop-rest-test.false) l.invariant.played
