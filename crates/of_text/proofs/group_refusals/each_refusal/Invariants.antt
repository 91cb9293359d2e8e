use Rattle.std.{specs.List.flat_map, proofs.Common.◌≡◌, proofs.Common.drop}
use Rattle.of_wire.specs.Refusals.{first_of}
use Rattle.of_text.specs.{Refusals.list_refusals, Views.view_bucket}
use Rattle.of_text.proofs.group_refusals.each_refusal.Given as goal

abbrev pub invariant-loop-bucket : goal.invariant-loop-bucket
invariant-loop-bucket l = first_of (flat_map (λ b. list_refusals (view_bucket b).actions) l.buckets) ≡ first_of (flat_map (λ b. list_refusals (view_bucket b).actions) (drop l.bucket-index l.buckets))
