use Rattle.std.proofs.Common.{◌∙◌}
use Rattle.of_ovs_words.proofs.WordLemmas.{some_bytes, no_bytes}
use Rattle.of_frame_words.{specs.Views.view_received, proofs.WordLemmas.stops_same, proofs.SaidLemmas.ttls_end, proofs.SaidLemmas.ttls_more, proofs.SaidLemmas.ttls_stop}
use Rattle.of_frame_words.proofs.frame.with_ttl_words.Goals as goal

pub loop-rest-preserved : goal.loop-rest-preserved
loop-rest-preserved c =
    let some = some_bytes c.loop-rest.rest.now c.is_empty.result c.is_empty.ensures c.loop-rest-test.true in
    (c.in-Ok.ensures.frame, c.loop-rest.invariant.1 ∙ ttls_more (view_received c.loop-rest.received) (view_received c.in-Ok.next) c.loop-rest.rest.now c.cut_word.result.0.now c.cut_word.result.1.now some c.cut_word.ensures.first c.cut_word.ensures.rest c.in-Ok.ensures.read)

pub returns-in-Err-clause-stopped : goal.returns-in-Err-clause-stopped
returns-in-Err-clause-stopped c =
    let some = some_bytes c.loop-rest.rest.now c.is_empty.result c.is_empty.ensures c.loop-rest-test.true in
    stops_same _ _ c.in-Err.stop c.loop-rest.invariant.1 (ttls_stop (view_received c.loop-rest.received) c.loop-rest.rest.now c.cut_word.result.0.now c.cut_word.result.1.now c.in-Err.stop some c.cut_word.ensures.first c.cut_word.ensures.rest c.in-Err.ensures.stopped)

pub returns-clause-read : goal.returns-clause-read
returns-clause-read c = c.loop-rest.invariant.1 ∙ ttls_end (view_received c.loop-rest.received) c.loop-rest.rest.now (no_bytes c.loop-rest.rest.now c.is_empty.result c.is_empty.ensures c.loop-rest-test.false)
