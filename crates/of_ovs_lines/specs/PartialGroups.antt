-- WHAT THE WORDS OF A LINE SAY OF A GROUP, one after the other (ovs-ofctl(8)).
use Rattle.std.specs.Prelude.{ℕ, ◌^◌, ◌&&◌, ◌||◌, nat_lt, Bool, true, false, ◌==◌, List, [], ◌∷◌, ◌++◌, codes, length, Option, Some, None, Result, Ok, Err, if◌then◌else◌}
use Rattle.std.specs.{List.list_all, Str.bytes_eq}
use Rattle.of_actions.specs.declared.action.Action.{Action}
use Rattle.of_groups.specs.declared.group.GroupKind.{GroupKind}
use Rattle.of_groups.specs.declared.group.GroupKind.TheVariants.{All, Indirect, FastFailover}
use Rattle.of_lines.specs.declared.row.BucketHead.{BucketHead}
use Rattle.of_text.specs.Groups.{TextBucket, TextGroup}
use Rattle.of_wire.specs.declared.limits.TheConstants.{OFPG_ANY, OFPP_ANY}
use Rattle.of_ovs_words.specs.{declared.why.Why.Why, Words.word_name, Words.word_value, Outcomes.◌>>=◌, Outcomes.numbered, Ports.port_in, Actions.with_action_in_word}
use Rattle.of_ovs_words.specs.declared.why.Why.TheVariants as whys
use Rattle.of_ovs_lines.specs.{PartialFlows.Refusal, Finished.action_fits}

pub record PartialGroup : Type 0 where
  pub id : Option ℕ
  pub kind : Option GroupKind
  -- a bucket is begun, and this is what is said of it
  pub begun : Bool
  pub head : BucketHead
  pub actions : List Action
  -- its only action is `drop`
  pub dropped : Bool
  -- those before it
  pub buckets : List TextBucket
  pub faults : List Refusal

-- a bucket that watches nothing (OpenFlow 1.3.5, 7.3.4.2)
abbrev pub new_bucket : BucketHead
new_bucket = record { weight = 0; watch_port = OFPP_ANY; watch_group = OFPG_ANY }

abbrev pub no_group : PartialGroup
no_group = record { id = None; kind = None; begun = false; head = new_bucket; actions = []; dropped = false; buckets = []; faults = [] }

abbrev pub closed_buckets : PartialGroup → List TextBucket
closed_buckets s = if s.begun then s.buckets ++ record { head = s.head; actions = s.actions } ∷ [] else s.buckets

abbrev pub with_new_bucket : PartialGroup → PartialGroup
with_new_bucket s = record s { begun = true; head = new_bucket; actions = []; dropped = false; buckets = closed_buckets s }

abbrev pub kind_in : List ℕ → Result GroupKind Why
kind_in value =
    if bytes_eq value (codes "all") then Ok All
    else if bytes_eq value (codes "indirect") then Ok Indirect
    else if bytes_eq value (codes "ff") then Ok FastFailover
    else if bytes_eq value (codes "fast_failover") then Ok FastFailover
    else Err whys.Unknown

abbrev pub with_bucket_action : PartialGroup → List ℕ → Result PartialGroup Why
with_bucket_action s word = with_action_in_word [] [] s.dropped s.actions word >>= λ r. Ok (record s { dropped = r.0; actions = r.1 })

abbrev pub first_action : PartialGroup → List ℕ → Result PartialGroup Why
first_action s value = if length value == 0 then Ok s else with_bucket_action s value

abbrev pub names_actions : List ℕ → Bool
names_actions name = bytes_eq name (codes "actions") || bytes_eq name (codes "action")

-- a word of a bucket, by its name and its value
unfoldable pub with_bucket_word : PartialGroup → List ℕ → Result PartialGroup Why
with_bucket_word s word =
    if bytes_eq (word_name word) (codes "weight") then (numbered 65536 (word_value word) >>= λ n. Ok (record s { head = record s.head { weight = n } }))
    else if bytes_eq (word_name word) (codes "watch_port") then (port_in whys.PortName (word_value word) >>= λ n. Ok (record s { head = record s.head { watch_port = n } }))
    else if bytes_eq (word_name word) (codes "watch_group") then (numbered (2 ^ 32) (word_value word) >>= λ n. Ok (record s { head = record s.head { watch_group = n } }))
    else if bytes_eq (word_name word) (codes "bucket_id") then Ok s
    else if names_actions (word_name word) then first_action s (word_value word)
    else with_bucket_action s word

-- a word that is refused changes nothing else
abbrev pub group_or_refused : PartialGroup → List ℕ → Result PartialGroup Why → PartialGroup
group_or_refused s word (Ok next) = next
group_or_refused s word (Err why) = record s { faults = s.faults ++ record { word = word; why = why } ∷ [] }

abbrev pub with_word_of_bucket : PartialGroup → List ℕ → PartialGroup
with_word_of_bucket s word = group_or_refused s word (with_bucket_word s word)

abbrev pub with_first_word : PartialGroup → List ℕ → PartialGroup
with_first_word s value = if length value == 0 then s else with_word_of_bucket s value

-- a command of a file for add-groups, other than `add`
abbrev pub is_other_command : List ℕ → Bool
is_other_command name =
    bytes_eq name (codes "add_or_mod") || bytes_eq name (codes "modify") || bytes_eq name (codes "delete")
    || bytes_eq name (codes "insert_bucket") || bytes_eq name (codes "insert_buckets") || bytes_eq name (codes "remove_bucket") || bytes_eq name (codes "remove_buckets")

-- a word before the buckets
unfoldable pub with_group_head : PartialGroup → List ℕ → Result PartialGroup Why
with_group_head s word =
    if bytes_eq (word_name word) (codes "group_id") then (numbered (2 ^ 32) (word_value word) >>= λ n. Ok (record s { id = Some n }))
    else if bytes_eq (word_name word) (codes "type") then (kind_in (word_value word) >>= λ kind. Ok (record s { kind = Some kind }))
    else if bytes_eq (word_name word) (codes "add") then Ok s
    else if is_other_command (word_name word) then Err whys.Command
    else Err whys.Unknown

-- ONE MORE WORD of a group
unfoldable pub with_group_word : PartialGroup → List ℕ → PartialGroup
with_group_word s word =
    if bytes_eq (word_name word) (codes "bucket") then with_first_word (with_new_bucket s) (word_value word)
    else if s.begun then with_word_of_bucket s word
    else group_or_refused s word (with_group_head s word)

abbrev pub bucket_fits : TextBucket → Bool
bucket_fits b = nat_lt b.head.weight (2 ^ 16) && nat_lt b.head.watch_port (2 ^ 32) && nat_lt b.head.watch_group (2 ^ 32) && list_all action_fits b.actions

abbrev pub group_by : PartialGroup → Option ℕ → Option GroupKind → Result TextGroup Why
group_by s (Some id) (Some kind) = Ok (record { head = record { id = id; kind = kind }; buckets = closed_buckets s })
group_by s (Some id) None = Err whys.Missing
group_by s None kind = Err whys.Missing

-- THE GROUP of its words, in whose buckets each number fits its place
unfoldable pub finished_group : PartialGroup → Result TextGroup Why
finished_group s = if list_all bucket_fits (closed_buckets s) then group_by s s.id s.kind else Err whys.Value
