-- WHICH GROUPS AND FLOWS OF A TABLE ARE KEPT: those that a switch accepts, and of flows that replace each other the last one.
use Rattle.std.specs.Prelude.{ℕ, suc, zero, ◌==◌, ◌&&◌, not, Bool, List, [], ◌∷◌, ◌++◌, map, filter, filter_map, length, reverse, slice_index_or, Option, Some, None, is_none, if◌then◌else◌}
use Rattle.std.specs.{List.fold, List.list_any, Option.option_map}
use Rattle.of_wire.specs.declared.code.Code.{Code}
use Rattle.of_text.specs.{Flows.Flow as TextFlow, Groups.TextGroup, First.first_refusal, Refusals.has_same_match}
use Rattle.of_import.specs.ParsedLines.{FlowAt}

abbrev pub groups_in : List (ℕ × TextGroup) → List TextGroup
groups_in gs = map (λ g. g.1) gs

abbrev pub flows_in : List FlowAt → List TextFlow
flows_in fs = map (λ f. f.flow) fs

-- ---- groups: the first that is refused is left out, until none is (OpenFlow 1.3.5, 6.5 and 7.4.4)

pub record KeptGroups : Type 0 where
  pub groups : List (ℕ × TextGroup)
  -- the lines that are left out, and their first refusals
  pub refused : List (ℕ × Code)

abbrev pub group_line_at : ℕ → List (ℕ × TextGroup) → ℕ
group_line_at place gs = slice_index_or (map (λ g. g.0) gs) place 0

abbrev pub id_at : ℕ → List (ℕ × TextGroup) → ℕ
id_at place gs = slice_index_or (map (λ g. g.1.head.id) gs) place 0

-- without the group of that number
abbrev pub without_group : ℕ → List (ℕ × TextGroup) → List (ℕ × TextGroup)
without_group id gs = filter (λ g. not (g.1.head.id == id)) gs

abbrev pub after_refusal : Option (ℕ × Code) → KeptGroups → KeptGroups
after_refusal None k = k
after_refusal (Some r) k = record { groups = without_group (id_at r.0 k.groups) k.groups; refused = k.refused ++ (group_line_at r.0 k.groups, r.1) ∷ [] }

-- of as many steps
abbrev pub kept_groups : ℕ → KeptGroups → KeptGroups
kept_groups zero k = k
kept_groups (suc n) k = kept_groups n (after_refusal (first_refusal (groups_in k.groups) []) k)

-- ---- flows

-- why the switch refuses a flow as the only one beside these groups, of which none is refused
unfoldable pub refusal_alone : List TextGroup → TextFlow → Option Code
refusal_alone groups f = option_map (λ r. r.1) (first_refusal groups (f ∷ []))

abbrev pub accepted : List TextGroup → List FlowAt → List FlowAt
accepted groups fs = filter (λ f. is_none (refusal_alone groups f.flow)) fs

abbrev pub refused_flows : List TextGroup → List FlowAt → List (ℕ × Code)
refused_flows groups fs = filter_map (λ f. option_map (λ code. (f.line, code)) (refusal_alone groups f.flow)) fs

-- the flow has the table, the priority and the match of that one: as an ADD, it takes its place (OpenFlow 1.3.5, 6.4)
abbrev pub replaces : TextFlow → TextFlow → Bool
replaces f g = g.head.table == f.head.table && has_same_match f g

-- from the last flow back: one that a later one replaces is left out
abbrev pub with_older : List FlowAt → FlowAt → List FlowAt
with_older later f = if list_any (λ g. replaces g.flow f.flow) later then later else later ++ f ∷ []

unfoldable pub youngest : List FlowAt → List FlowAt
youngest fs = reverse (fold with_older [] (reverse fs))

pub record Kept : Type 0 where
  pub groups : List (ℕ × TextGroup)
  pub flows : List FlowAt
  pub refused : List (ℕ × Code)

abbrev pub kept_beside : KeptGroups → List FlowAt → Kept
kept_beside k fs = record { groups = k.groups; flows = youngest (accepted (groups_in k.groups) fs); refused = k.refused ++ refused_flows (groups_in k.groups) fs }

-- WHAT IS KEPT of the groups and flows that were read, and the lines that are left out since the switch refuses them
unfoldable pub kept_of_lines : List (ℕ × TextGroup) → List FlowAt → Kept
kept_of_lines gs fs = kept_beside (kept_groups (length gs) (record { groups = gs; refused = [] })) fs

-- the line of a group or flow, the flows after the groups
abbrev pub line_of_item : ℕ → List (ℕ × TextGroup) → List FlowAt → ℕ
line_of_item place gs fs = slice_index_or (map (λ g. g.0) gs ++ map (λ f. f.line) fs) place 0
