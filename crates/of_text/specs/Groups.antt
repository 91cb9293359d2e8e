-- Groups as text has them, and the lines that they are (OpenFlow 1.3.5, 5.6 and 7.3.4.2).
use Rattle.std.specs.{Prelude.ℕ, Prelude.List, Prelude.◌∷◌, Prelude.map, List.flat_map}
use Rattle.of_actions.specs.declared.action.Action.{Action}
use Rattle.of_groups.specs.{declared.bucket.Bucket.Bucket, declared.group.Group.Group}
use Rattle.of_lines.specs.{declared.row.BucketHead.BucketHead, declared.row.GroupHead.GroupHead, declared.row.Row.Row}
use Rattle.of_lines.specs.declared.row.Row.TheVariants as rows

pub record TextBucket : Type 0 where
  pub head : BucketHead
  pub actions : List Action

pub record TextGroup : Type 0 where
  pub head : GroupHead
  pub buckets : List TextBucket

abbrev pub bucket_rows : TextBucket → List Row
bucket_rows b = rows.Bucket b.head ∷ map rows.Do b.actions

abbrev pub group_rows : TextGroup → List Row
group_rows g = rows.Group g.head ∷ flat_map bucket_rows g.buckets

-- THE LINES OF GROUPS, in the order of the groups
abbrev pub rows_of_groups : List TextGroup → List Row
rows_of_groups groups = flat_map group_rows groups

-- ---- as a switch has them, where nothing is counted yet

abbrev pub bucket_of : TextBucket → Bucket
bucket_of b = record { weight = b.head.weight; watch_port = b.head.watch_port; watch_group = b.head.watch_group; actions = b.actions; packets = 0; bytes = 0 }

abbrev pub buckets_of : TextGroup → List Bucket
buckets_of g = map bucket_of g.buckets

-- added at that moment
abbrev pub group_at : ℕ → TextGroup → Group
group_at created g = record { id = g.head.id; kind = g.head.kind; buckets = buckets_of g; packets = 0; bytes = 0; created = created }

abbrev pub groups_at : ℕ → List TextGroup → List Group
groups_at created groups = map (group_at created) groups

-- ---- and back: without counters and times

abbrev pub bucket_text : Bucket → TextBucket
bucket_text b = record { head = record { weight = b.weight; watch_port = b.watch_port; watch_group = b.watch_group }; actions = b.actions }

abbrev pub group_text : Group → TextGroup
group_text g = record { head = record { id = g.id; kind = g.kind }; buckets = map bucket_text g.buckets }
