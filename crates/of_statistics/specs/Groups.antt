-- GROUP, GROUP_DESC and GROUP_FEATURES (OpenFlow 1.3.5, 7.3.5.9, 7.3.5.10 and 7.3.5.11): what groups count, what they are, and which there can be.
use Rattle.std.specs.Prelude.{ℕ, ◌+◌, ◌*◌, ◌^◌, ◌%◌, bit_or, List, [], ◌∷◌, ◌++◌, length, map, take, Option, Some, None}
use Rattle.std.specs.{List.count_by, List.flat_map, List.fold, Option.option_to_list}
use Rattle.of_formats.specs.Structs.{size, written}
use Rattle.of_formats.specs.Tables as structs
use Rattle.of_actions.specs.{declared.rows.ActionRow.ActionRow, declared.rows.TheConstants.ACTIONS}
use Rattle.of_messages.specs.CanonicalGroups.{canonical_buckets}
use Rattle.of_groups.specs.{declared.bucket.Bucket.Bucket, declared.group.Group.Group, Groups.find_group, Groups.sends_to, Groups.kind_number}
use Rattle.of_table.specs.{Table.FlowEntry, Tables.Tables, Selecting.names_group, Selecting.nanoseconds_since}
use Rattle.of_statistics.specs.{Replies.reply, Replies.replies, Durations.seconds, Flows.from_tables}

-- a group by its number, where it exists, or all of them
abbrev pub asked_groups : Option ℕ → List Group → List Group
asked_groups None groups = groups
asked_groups (Some n) groups = option_to_list (find_group n groups)

-- ---- GROUP

abbrev pub all_entries : Tables → List FlowEntry
all_entries ts = from_tables (λ k t. t.flows) 0 ts.tables

-- THE NUMBER OF REFERENCES: how many entries have an action that sends to the group, and how many groups have one in a bucket
abbrev pub references : ℕ → List Group → Tables → ℕ
references n groups ts = count_by (names_group (Some n)) (all_entries ts) + count_by (sends_to n) groups

unfoldable pub bucket_row : Bucket → List ℕ
bucket_row b = written structs.bucket_counter (b.packets ∷ b.bytes ∷ [])

-- the length of the whole row
abbrev pub group_row_size : Group → ℕ
group_row_size g = size structs.group_stats + size structs.bucket_counter * length g.buckets

-- with the number of references
unfoldable pub group_row : ℕ → ℕ → Group → List ℕ
group_row now count g =
    written structs.group_stats (group_row_size g ∷ g.id ∷ count ∷ g.packets ∷ g.bytes ∷ seconds now g.created ∷ nanoseconds_since now g.created ∷ [])
    ++ flat_map bucket_row g.buckets

-- for contracts inside this crate: the fields before the durations
unfoldable pub group_fixed_part : ℕ → Group → List ℕ
group_fixed_part count g = written (take 7 structs.group_stats) (group_row_size g ∷ g.id ∷ count ∷ g.packets ∷ g.bytes ∷ [])

-- a group among these, and with these tables
abbrev pub row_among : List Group → Tables → Group → List ℕ
row_among groups ts g = group_row ts.latest (references g.id groups ts) g

abbrev pub group_statistics_rows : Option ℕ → List Group → Tables → List (List ℕ)
group_statistics_rows which groups ts = map (row_among groups ts) (asked_groups which groups)

abbrev pub group_bytes : ℕ → Option ℕ → List Group → Tables → List (List ℕ)
group_bytes xid which groups ts = replies xid 6 (group_statistics_rows which groups ts)

-- ---- GROUP_DESC

unfoldable pub group_description : Group → List ℕ
group_description g =
    written structs.group_desc ((size structs.group_desc + length (canonical_buckets g.buckets)) ∷ kind_number g.kind ∷ g.id ∷ [])
    ++ canonical_buckets g.buckets

abbrev pub group_description_bytes : ℕ → List Group → List (List ℕ)
group_description_bytes xid groups = replies xid 7 (map group_description groups)

-- ---- GROUP_FEATURES

-- OFPGT_ALL, OFPGT_INDIRECT and OFPGT_FF
abbrev pub kinds_of_groups : ℕ
kinds_of_groups = 0x0d

-- OFPGFC_CHAINING and OFPGFC_CHAINING_CHECKS
abbrev pub group_capabilities : ℕ
group_capabilities = 0x0c

-- a bit for the type of each action
abbrev pub with_bit : ℕ → ActionRow → ℕ
with_bit bits r = bit_or bits (2 ^ (r.kind % 32))

abbrev pub group_actions : ℕ
group_actions = fold with_bit 0 ACTIONS

-- of ALL, SELECT, INDIRECT and FAST-FAILOVER: how many groups there can be, and which actions; there is no SELECT
unfoldable pub group_features_body : List ℕ
group_features_body =
    written structs.group_features (kinds_of_groups ∷ group_capabilities ∷ 256 ∷ 0 ∷ 256 ∷ 256 ∷ group_actions ∷ 0 ∷ group_actions ∷ group_actions ∷ [])

abbrev pub group_features_bytes : ℕ → List ℕ
group_features_bytes xid = reply xid 8 0 group_features_body
