use Rattle.std.{specs.List.list_all, proofs.Common.◌≡◌, proofs.Common.◌++◌, proofs.Common.true, proofs.Common.take}
use Rattle.of_messages.specs.CanonicalGroups.{canonical_buckets, has_numbers}
use Rattle.of_messages.proofs.group_mod_writing.put_buckets.Given as goal

abbrev pub invariant-loop-bucket : goal.invariant-loop-bucket
invariant-loop-bucket l = record { text : l.out.items ≡ l.fn.out.items ++ canonical_buckets (take l.bucket-index l.buckets); numbers : list_all has_numbers (take l.bucket-index l.buckets) ≡ true }
