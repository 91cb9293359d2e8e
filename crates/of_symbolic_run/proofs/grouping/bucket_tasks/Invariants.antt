use Rattle.std.proofs.Common.{take}
use Rattle.of_symbolic_run.specs.Groups.{AreBucketTasks, lists_of}
use Rattle.of_symbolic_run.proofs.grouping.bucket_tasks.Given as goal

abbrev pub invariant-loop-bucket : goal.invariant-loop-bucket
invariant-loop-bucket l = AreBucketTasks l.packet (lists_of (take l.bucket-index l.buckets)) l.tasks.items
