-- The groups of a switch, in ascending order of number (OpenFlow 1.3.5, 5.6, 5.8 and 6.5).
use Rattle.std.specs.Prelude.{ℕ, ◌+◌, ◌%◌, ◌^◌, ◌==◌, nat_lt, Bool, false, ◌||◌, List, [], ◌∷◌, ◌++◌, map, filter, find, slice_get, Option, Some, None, if◌then◌else◌}
use Rattle.std.specs.{List.list_any, Option.option_map, Option.option_map_or}
use Rattle.of_wire.specs.Numbered.{is_used, without}
use Rattle.of_actions.specs.declared.action.Action.{Action}
use Rattle.of_groups.specs.{declared.bucket.Bucket.Bucket, declared.group.Group.Group, declared.group.GroupKind.GroupKind}
use Rattle.of_groups.specs.declared.group.GroupKind.TheVariants.{All, Indirect, FastFailover}
use Rattle.of_groups.specs.Buckets.{fresh, used_at, any_sends, watches}

-- the number of a type (7.3.4.2)
abbrev pub kind_number : GroupKind → ℕ
kind_number All = 0
kind_number Indirect = 2
kind_number FastFailover = 3

abbrev pub group_number : Group → ℕ
group_number g = g.id

abbrev pub find_group : ℕ → List Group → Option Group
find_group n groups = find (λ g. g.id == n) groups

abbrev pub is_there : ℕ → List Group → Bool
is_there n groups = is_used group_number n groups

-- the actions of the bucket of a group at a place
abbrev pub bucket_at : List Group → ℕ → ℕ → Option (List Action)
bucket_at groups n place = option_map_or (λ g. option_map (λ b. b.actions) (slice_get g.buckets place)) (find_group n groups) None

-- ---- names (6.5): a group names those to which its buckets' actions send; one of FAST-FAILOVER names those that its buckets watch too

abbrev pub any_watches : (ℕ → Bool) → GroupKind → List Bucket → Bool
any_watches is_so All buckets = false
any_watches is_so Indirect buckets = false
any_watches is_so FastFailover buckets = list_any (watches is_so) buckets

-- some group that it names has a number that passes the test
abbrev pub any_named : (ℕ → Bool) → Group → Bool
any_named is_so g = any_sends is_so g.buckets || any_watches is_so g.kind g.buckets

abbrev pub names : ℕ → Group → Bool
names n g = any_named (λ m. m == n) g

-- by an action: what the number of references counts (7.3.5.6)
abbrev pub sends_to : ℕ → Group → Bool
sends_to n g = any_sends (λ m. m == n) g.buckets

-- ---- changes (6.5)

-- a group as a GROUP_MOD gives it: nothing is counted so far
abbrev pub new_group : ℕ → GroupKind → List Bucket → ℕ → Group
new_group id kind buckets created = record { id = id; kind = kind; buckets = map fresh buckets; packets = 0; bytes = 0; created = created }

-- it replaces the group of its number, or is inserted in order of number
abbrev pub with_group : Group → List Group → List Group
with_group g groups = filter (λ h. nat_lt h.id g.id) groups ++ g ∷ filter (λ h. nat_lt g.id h.id) groups

-- the moment at which the group of that number was added
abbrev pub created_at : ℕ → List Group → ℕ
created_at n groups = option_map_or (λ g. g.created) (find_group n groups) 0

-- a group that is modified keeps its time of creation
abbrev pub modified_group : ℕ → GroupKind → List Bucket → List Group → Group
modified_group id kind buckets groups = new_group id kind buckets (created_at id groups)

-- what a DELETE leaves: of one group, or of all
abbrev pub groups_left : Option ℕ → List Group → List Group
groups_left None groups = []
groups_left (Some n) groups = without group_number n groups

-- ---- counting (5.8)

-- the group of a number is changed
abbrev pub at_group : ℕ → (Group → Group) → List Group → List Group
at_group n change groups = map (λ g. if g.id == n then change g else g) groups

-- one more packet of this many bytes; counters wrap
abbrev pub counted : ℕ → ℕ → List Group → List Group
counted n bytes groups = at_group n (λ g. record g { packets = (g.packets + 1) % 2 ^ 64; bytes = (g.bytes + bytes) % 2 ^ 64 }) groups

abbrev pub bucket_counted : ℕ → ℕ → ℕ → List Group → List Group
bucket_counted n place bytes groups = at_group n (λ g. record g { buckets = used_at place bytes g.buckets }) groups
