-- Which buckets of a group run, and what is live (OpenFlow 1.3.5, 5.6.1).
use Rattle.std.specs.Prelude.{ℕ, zero, suc, ◌==◌, Bool, true, false, not, ◌&&◌, ◌||◌, List, [], ◌∷◌, length, Option, position}
use Rattle.std.specs.{List.list_any, List.range_with_len, Option.option_map, Option.option_map_or, Option.option_to_list}
use Rattle.of_wire.specs.declared.limits.TheConstants.{OFPG_ANY, OFPP_ANY}
use Rattle.of_groups.specs.{declared.bucket.Bucket.Bucket, declared.group.Group.Group, declared.group.GroupKind.GroupKind}
use Rattle.of_groups.specs.{declared.group.GroupKind.TheVariants.All, declared.group.GroupKind.TheVariants.Indirect, declared.group.GroupKind.TheVariants.FastFailover, Groups.find_group}

-- a bucket of FAST-FAILOVER is live where the port or the group that it watches is live
abbrev pub is_live_bucket : (ℕ → Bool) → (ℕ → Bool) → Bucket → Bool
is_live_bucket port group b = (not (b.watch_port == OFPP_ANY) && port b.watch_port) || (not (b.watch_group == OFPG_ANY) && group b.watch_group)

-- a group is live: ALL where it has a bucket, INDIRECT always, FAST-FAILOVER where some bucket is
abbrev pub is_live_kind : (ℕ → Bool) → (ℕ → Bool) → GroupKind → List Bucket → Bool
is_live_kind port group All [] = false
is_live_kind port group All (b ∷ buckets) = true
is_live_kind port group Indirect buckets = true
is_live_kind port group FastFailover buckets = list_any (is_live_bucket port group) buckets

-- the group of that number is live; at most k groups of a chain are checked
unfoldable pub is_live_within : List Group → (ℕ → Bool) → ℕ → ℕ → Bool
is_live_within groups port zero n = false
is_live_within groups port (suc k) n = option_map_or (λ g. is_live_kind port (is_live_within groups port k) g.kind g.buckets) (find_group n groups) false

-- no chain has more groups than 3
abbrev pub is_live_group : List Group → (ℕ → Bool) → ℕ → Bool
is_live_group groups port n = is_live_within groups port 3 n

-- the places of the buckets that run: of ALL each, of INDIRECT its one, of FAST-FAILOVER the first that is live
abbrev pub places_of : (ℕ → Bool) → (ℕ → Bool) → GroupKind → List Bucket → List ℕ
places_of port group All buckets = range_with_len 0 (length buckets)
places_of port group Indirect buckets = range_with_len 0 (length buckets)
places_of port group FastFailover buckets = option_to_list (position (is_live_bucket port group) buckets)

-- THE BUCKETS OF A GROUP THAT RUN, where the group exists
abbrev pub chosen : List Group → (ℕ → Bool) → ℕ → Option (List ℕ)
chosen groups port n = option_map (λ g. places_of port (is_live_group groups port) g.kind g.buckets) (find_group n groups)
