use Rattle.of_statistics.{specs.Groups.bucket_row, proofs.Parts.two_parts}
use Rattle.of_statistics.proofs.groups.put_bucket.Goals as goal

pub returns : goal.returns
unfolding bucket_row
returns c = two_parts c.put_u64-2.result _ _ _ _ c.in_ok-put_u64.ensures c.put_u64-2.ensures
