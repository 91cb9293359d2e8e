-- Buckets of a group (OpenFlow 1.3.5, 5.6, 5.6.1 and 5.8).
use Rattle.std.specs.Prelude.{ℕ, zero, suc, ◌+◌, ◌%◌, ◌^◌, ◌==◌, nat_le, nat_lt, Bool, false, not, ◌&&◌, ◌||◌, List, [], ◌∷◌, length}
use Rattle.std.specs.List.{list_any, list_all}
use Rattle.of_wire.specs.declared.limits.TheConstants.{OFPG_ANY, OFPG_MAX, OFPP_ANY}
use Rattle.of_actions.specs.{declared.action.Action.Action, declared.action.Action.TheVariants.Group, Supported.are_supported, PortNumbers.is_number}
use Rattle.of_groups.specs.declared.bucket.Bucket.{Bucket}

-- at most 16 of them, each with actions that are valid in a group
abbrev pub is_fit : Bucket → Bool
is_fit b = are_supported false b.actions

abbrev pub are_fit : List Bucket → Bool
are_fit buckets = nat_le (length buckets) 16 && list_all is_fit buckets

-- ---- counting (5.8): counters wrap

abbrev pub fresh : Bucket → Bucket
fresh b = record b { packets = 0; bytes = 0 }

-- one more packet of this many bytes
abbrev pub used_bucket : ℕ → Bucket → Bucket
used_bucket bytes b = record b { packets = (b.packets + 1) % 2 ^ 64; bytes = (b.bytes + bytes) % 2 ^ 64 }

-- at the bucket at a place
abbrev pub used_at : ℕ → ℕ → List Bucket → List Bucket
used_at place bytes [] = []
used_at zero bytes (b ∷ buckets) = used_bucket bytes b ∷ buckets
used_at (suc place) bytes (b ∷ buckets) = b ∷ used_at place bytes buckets

-- ---- the groups that buckets name

-- an action that sends the packet to a group whose number passes the test
abbrev pub sends : (ℕ → Bool) → Action → Bool
sends is_so (Group group) = is_so group
sends is_so other = false

-- some action of some bucket does
abbrev pub any_sends : (ℕ → Bool) → List Bucket → Bool
any_sends is_so buckets = list_any (λ b. list_any (sends is_so) b.actions) buckets

-- the bucket watches a group whose number passes the test
abbrev pub watches : (ℕ → Bool) → Bucket → Bool
watches is_so b = not (b.watch_group == OFPG_ANY) && is_so b.watch_group

-- a bucket of FAST-FAILOVER may watch a port, a group, or both: this one watches something else, or nothing
abbrev pub is_badly_watched : Bucket → Bool
is_badly_watched b =
    (not (b.watch_port == OFPP_ANY) && not (is_number b.watch_port))
    || (not (b.watch_group == OFPG_ANY) && nat_lt OFPG_MAX b.watch_group)
    || ((b.watch_port == OFPP_ANY) && (b.watch_group == OFPG_ANY))
