-- WHAT THE GROUPS OF TWO SWITCHES DO WITH PACKETS (OpenFlow 1.3.5, 5.6).
use Rattle.std.specs.Prelude.{◌≡◌, ℕ, List, map}
use Rattle.of_actions.specs.declared.action.Action.{Action}
use Rattle.of_groups.specs.{declared.bucket.Bucket.Bucket, declared.group.Group.Group, declared.group.GroupKind.GroupKind}

-- its weight and its counters treat no packet otherwise
pub record BucketKey : Type 0 where
  pub actions : List Action
  pub watch_port : ℕ
  pub watch_group : ℕ

abbrev pub bucket_key : Bucket → BucketKey
bucket_key b = record { actions = b.actions; watch_port = b.watch_port; watch_group = b.watch_group }

pub record GroupKey : Type 0 where
  pub number : ℕ
  pub kind : GroupKind
  pub buckets : List BucketKey

abbrev pub group_key : Group → GroupKey
group_key g = record { number = g.id; kind = g.kind; buckets = map bucket_key g.buckets }

-- the same numbers in the same order, and each group does the same
abbrev pub SameGroups : List Group → List Group → Type 0
SameGroups gs hs = map group_key gs ≡ map group_key hs
