use Rattle.std.proofs.Common.{◌∙◌, ◌<◌, length, arith}
use Rattle.of_ovs_words.proofs.WordLemmas.{no_bytes, some_bytes}
use Rattle.of_require.proofs.FileLemmas.{lines_end, lines_more, lines_stop, same_end}
use Rattle.of_require.proofs.line.read_requirements.Goals as goal

pub loop-rest-preserved : goal.loop-rest-preserved
loop-rest-preserved c =
    let some : 0 < length c.loop-rest.rest.now = some_bytes c.loop-rest.rest.now c.is_empty.result c.is_empty.ensures c.loop-rest-test.true in
    record {
      read = c.loop-rest.invariant.read ∙ lines_more _ _ c.loop-rest.rest.now some c.cut.result.0.now c.cut.result.1.now _ c.cut.ensures.first c.cut.ensures.rest c.in-Ok.ensures.is;
      count = omega (arith, some, c.loop-rest.invariant.count, c.cut.ensures.shorter);
    }

pub returns-in-Err-clause-stopped : goal.returns-in-Err-clause-stopped
returns-in-Err-clause-stopped c =
    let some : 0 < length c.loop-rest.rest.now = some_bytes c.loop-rest.rest.now c.is_empty.result c.is_empty.ensures c.loop-rest-test.true in
    same_end _ _ _ c.in-Err.why c.loop-rest.invariant.read (lines_stop _ _ c.loop-rest.rest.now some c.cut.result.0.now c.in-Err.why c.cut.ensures.first c.in-Err.ensures.stopped)

pub returns-clause-is : goal.returns-clause-is
returns-clause-is c = c.loop-rest.invariant.read ∙ lines_end _ _ c.loop-rest.rest.now (no_bytes c.loop-rest.rest.now c.is_empty.result c.is_empty.ensures c.loop-rest-test.false)
