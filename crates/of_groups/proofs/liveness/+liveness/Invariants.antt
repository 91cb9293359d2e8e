use Rattle.std.proofs.Common.{◌≡◌, ◌+◌, ◌*◌, false, take}
use Rattle.std.specs.List.{list_any}
use Rattle.of_groups.specs.Liveness.{is_live_bucket, is_live_within}
use Rattle.of_groups.proofs.liveness.+liveness.Given as goal

abbrev pub decreases-is_live_within : goal.decreases-is_live_within
decreases-is_live_within g l = 3 * l.levels

abbrev pub decreases-is_live_bucket : goal.decreases-is_live_bucket
decreases-is_live_bucket g l = 3 * l.levels + 1

abbrev pub decreases-is_live_group : goal.decreases-is_live_group
decreases-is_live_group g l = 3 * l.levels + 2

abbrev pub invariant-is_live_group-loop-bucket : goal.invariant-is_live_group-loop-bucket
invariant-is_live_group-loop-bucket g l =
    list_any (is_live_bucket (g.P.LivePorts.live l.ports) (is_live_within l.groups (g.P.LivePorts.live l.ports) l.levels)) (take l.bucket-index l.buckets) ≡ false
