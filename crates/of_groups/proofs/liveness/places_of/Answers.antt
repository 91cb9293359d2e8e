use Rattle.std.{specs.Prelude.position, specs.Option.option_to_list, proofs.Common.◌∙◌, proofs.Common.ap, proofs.Common.List}
use Rattle.of_groups.specs.{declared.bucket.Bucket.Bucket, Liveness.is_live_bucket, Liveness.is_live_group}
use Rattle.of_groups.proofs.liveness.places_of.Goals as goal

pub returns-in-FastFailover : goal.returns-in-FastFailover
returns-in-FastFailover g c =
    rw c.in-FastFailover.is (
    c.first_place.ensures
    ∙ ap (λ (bs : List Bucket). option_to_list (position (is_live_bucket (g.P.LivePorts.live c.args.ports.now) (is_live_group c.args.groups.now (g.P.LivePorts.live c.args.ports.now))) bs)) c.as_slice-buckets.ensures.buckets)
