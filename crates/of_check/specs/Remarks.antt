-- THE REMARKS ON A CONFIGURATION, in the written order: by table, and in a table by age; then by group.
use Rattle.std.specs.Prelude.{ℕ, zero, suc, ◌==◌, Bool, not, ◌&&◌, List, [], ◌∷◌, ◌++◌, Option, Some, None, if◌then◌else◌}
use Rattle.std.specs.List.{list_any, flat_map}
use Rattle.of_oxm.specs.declared.match_field.MatchField.{MatchField}
use Rattle.of_actions.specs.{declared.instruction.Instruction.Instruction, declared.instruction.Instruction.TheVariants.Apply, declared.instruction.Instruction.TheVariants.Goto}
use Rattle.of_text.specs.{Flows.Flow, Groups.TextGroup, Configs.Configuration}
use Rattle.of_check.specs.declared.remark.Remark.TheVariants.{Unreachable, NoTableMiss, EmptyGoto, IngressOutput, UnseenActions, UnusedGroup, NoBuckets}
use Rattle.of_check.specs.{declared.remark.Remark.Remark, Tables.flows_at, Tables.is_reached, Tables.is_table_miss_flow, Tables.is_empty}
use Rattle.of_check.specs.{Actions.required_port, Actions.some_output_to, Actions.silent, Actions.is_used_later, Groups.is_named}

-- a remark, where it applies
abbrev pub where_so : Bool → Remark → List Remark
where_so applies remark = if applies then remark ∷ [] else []

-- ---- a flow entry, which is named by its table, and its index there by age, from 0

-- it goes on at a table without entries: there its packets are dropped (5.4)
abbrev pub goto_remarks : List (List Flow) → ℕ → ℕ → Instruction → List Remark
goto_remarks tables table place (Goto to) = where_so (is_empty (flows_at tables to)) (EmptyGoto table place to)
goto_remarks tables table place other = []

-- it sends to the ingress port that its match requires (4.5)
abbrev pub port_remarks : ℕ → ℕ → List Instruction → Option ℕ → List Remark
port_remarks table place instructions None = []
port_remarks table place instructions (Some port) = where_so (some_output_to port instructions) (IngressOutput table place port)

abbrev pub ingress_remarks : ℕ → ℕ → List Instruction → MatchField → List Remark
ingress_remarks table place instructions e = port_remarks table place instructions (required_port e)

-- its last applied actions change a packet that is neither sent nor looked at after them (5.12)
abbrev pub unseen_remarks : ℕ → ℕ → Instruction → List Remark
unseen_remarks table place (Apply actions) = where_so (not (silent actions == 0)) (UnseenActions table place (silent actions))
unseen_remarks table place other = []

abbrev pub end_remarks : List (List Flow) → ℕ → ℕ → List Instruction → List Remark
end_remarks tables table place instructions = if is_used_later tables table instructions then [] else flat_map (unseen_remarks table place) instructions

unfoldable pub flow_remarks : List (List Flow) → ℕ → ℕ → Flow → List Remark
flow_remarks tables table place f =
    flat_map (goto_remarks tables table place) f.instructions
    ++ (flat_map (ingress_remarks table place f.instructions) f.fields ++ end_remarks tables table place f.instructions)

-- those of these entries, of which the first has that index
unfoldable pub flows_remarks : List (List Flow) → ℕ → ℕ → List Flow → List Remark
flows_remarks tables table place [] = []
flows_remarks tables table place (f ∷ fs) = flow_remarks tables table place f ++ flows_remarks tables table (suc place) fs

-- ---- a table with entries: no packet comes to it (5.1), or it has no table-miss flow entry (5.4)

abbrev pub has_entries : List (List Flow) → ℕ → Bool
has_entries tables table = not (is_empty (flows_at tables table))

abbrev pub is_unreachable : List (List Flow) → ℕ → Bool
is_unreachable tables table = has_entries tables table && not (is_reached tables table)

abbrev pub has_no_miss : List (List Flow) → ℕ → Bool
has_no_miss tables table = has_entries tables table && not (list_any is_table_miss_flow (flows_at tables table))

unfoldable pub table_remarks : List (List Flow) → ℕ → List Remark
table_remarks tables table =
    where_so (is_unreachable tables table) (Unreachable table)
    ++ (where_so (has_no_miss tables table) (NoTableMiss table) ++ flows_remarks tables table 0 (flows_at tables table))

-- those of the first k tables
unfoldable pub remarks_below : List (List Flow) → ℕ → List Remark
remarks_below tables zero = []
remarks_below tables (suc k) = remarks_below tables k ++ table_remarks tables k

-- ---- a group: nothing names it, or it has no bucket, so that packets end there (5.6.1)

abbrev pub group_remarks : Configuration → TextGroup → List Remark
group_remarks c g = where_so (not (is_named c g.head.id)) (UnusedGroup g.head.id) ++ where_so (is_empty g.buckets) (NoBuckets g.head.id)

-- ALL OF THEM
unfoldable pub remarks_on : Configuration → List Remark
remarks_on c = remarks_below c.tables 16 ++ flat_map (group_remarks c) c.groups
