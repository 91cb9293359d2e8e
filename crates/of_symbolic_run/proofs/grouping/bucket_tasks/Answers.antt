use Rattle.std.proofs.{Common.Bor, Common.List, Common.[], Common.get_or, lemmas.List.get_or_default}
use Rattle.of_actions.specs.declared.action.Action.{Action}
use Rattle.of_symbolic_run.proofs.GroupLemmas.{bucket_more, served_bucket}
use Rattle.of_symbolic_run.proofs.grouping.bucket_tasks.Goals as goal

-- what is read past the end of a list
none : Bor (List Action)
none = record { ref_ptr = (0, 0); now = [] }

pub bucket_task-requires : goal.bucket_task-requires
unfolding none
bucket_task-requires c =
    let buckets = c.args.buckets.now in
    let i = c.loop-bucket.bucket-index in
    let x = get_or buckets i none in
    served_bucket buckets i x (get_or_default buckets i none x c.loop-bucket-test.true) c.loop-bucket-test.true c.requires

pub loop-bucket-preserved : goal.loop-bucket-preserved
unfolding none
loop-bucket-preserved c =
    let buckets = c.args.buckets.now in
    let i = c.loop-bucket.bucket-index in
    let x = get_or buckets i none in
    rw c.in_ok-push.ensures.items (bucket_more c.args.packet.now buckets i x c.loop-bucket.tasks.items c.in_ok-bucket_task.field-0 (get_or_default buckets i none x c.loop-bucket-test.true) c.loop-bucket-test.true c.loop-bucket.invariant c.in_ok-bucket_task.ensures)
