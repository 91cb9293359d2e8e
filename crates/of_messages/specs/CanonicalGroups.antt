-- GROUP_MOD (OpenFlow 1.3.5, 7.3.4.2), as a controller sends it to add a group: the one encoding that is written, with padding of zeros.
use Rattle.std.specs.Prelude.{ℕ, ◌+◌, ◌^◌, nat_lt, Bool, ◌&&◌, List, [], ◌∷◌, ◌++◌, length, map}
use Rattle.std.specs.List.{flat_map}
use Rattle.of_actions.specs.CanonicalActions.{canonical_actions}
use Rattle.of_groups.specs.{declared.bucket.Bucket.Bucket, Buckets.fresh, Groups.kind_number}
use Rattle.of_messages.specs.{declared.group_mod.NewGroup.NewGroup, Written.message}
use Rattle.of_formats.specs.{declared.messages.TheConstants.GROUP_MOD, Structs.written}
use Rattle.of_formats.specs.Tables as tables

-- its fields, and its actions
unfoldable pub canonical_bucket : Bucket → List ℕ
canonical_bucket b =
    written tables.bucket ((16 + length (canonical_actions b.actions)) ∷ b.weight ∷ b.watch_port ∷ b.watch_group ∷ []) ++ canonical_actions b.actions

abbrev pub canonical_buckets : List Bucket → List ℕ
canonical_buckets buckets = flat_map canonical_bucket buckets

-- the command OFPGC_ADD, the type of the group, and its number
unfoldable pub group_add_fixed_part : NewGroup → List ℕ
group_add_fixed_part g = written tables.group_mod (0 ∷ kind_number g.kind ∷ g.id ∷ [])

abbrev pub group_add_bytes : ℕ → NewGroup → List ℕ
group_add_bytes xid g = message GROUP_MOD xid (group_add_fixed_part g ++ canonical_buckets g.buckets)

-- the group as it is read again: counters are not written
abbrev pub as_written : NewGroup → NewGroup
as_written g = record g { buckets = map fresh g.buckets }

-- the numbers of a bucket fit their bytes
unfoldable pub has_numbers : Bucket → Bool
has_numbers b = nat_lt b.weight (256 ^ 2) && nat_lt b.watch_port (256 ^ 4) && nat_lt b.watch_group (256 ^ 4)
