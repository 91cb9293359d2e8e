use Rattle.std.proofs.{Common.sym, Common.◌∙◌, Common.arith, lemmas.Bool.eqb-true, lemmas.Bool.eqb-false}
use Rattle.of_messages.{specs.Buckets.buckets, specs.Buckets.buckets_said, proofs.BucketLemmas.buckets_take, proofs.BucketLemmas.said_stops, proofs.BucketLemmas.said_done}
use Rattle.of_messages.proofs.bucket_reading.read_buckets.Goals as goal

pub returns-in-Err : goal.returns-in-Err
unfolding buckets_said
returns-in-Err c =
    let ne = eqb-false _ _ (sym c.is_empty.ensures ∙ c.loop-rest-test.true) in
    said_stops buckets c.args.bytes.now c.loop-rest.rest.now c.loop-rest.buckets c.as_slice.result.now c.in-Err.e buckets_take c.loop-rest.invariant (omega (arith, ne)) c.as_slice.ensures.buckets c.in-Err.ensures.first

pub returns : goal.returns
unfolding buckets_said
returns c = said_done buckets c.args.bytes.now c.loop-rest.rest.now c.loop-rest.buckets buckets_take c.loop-rest.invariant (eqb-true _ _ (sym c.is_empty.ensures ∙ c.loop-rest-test.false))
