-- GROUPS THAT NOTHING NAMES (OpenFlow 1.3.5, 5.6 and 6.5).
use Rattle.std.specs.Prelude.{ℕ, ◌==◌, Bool, true, false, ◌&&◌, ◌||◌, List}
use Rattle.std.specs.List.{list_any}
use Rattle.of_actions.specs.declared.action.Action.{Action}
use Rattle.of_groups.specs.declared.group.GroupKind.{GroupKind}
use Rattle.of_groups.specs.{declared.group.GroupKind.TheVariants.All, declared.group.GroupKind.TheVariants.Indirect, declared.group.GroupKind.TheVariants.FastFailover, Buckets.sends}
use Rattle.of_text.specs.{Flows.Flow, Groups.TextGroup, Refusals.some_action, Configs.Configuration}

-- the action sends the packet to the group
abbrev pub is_to_group : ℕ → Action → Bool
is_to_group n a = sends (λ m. m == n) a

-- what a bucket watches counts in a FAST-FAILOVER group alone (5.6.1)
abbrev pub is_watching : GroupKind → Bool
is_watching All = false
is_watching Indirect = false
is_watching FastFailover = true

-- the group names that one: an action of a bucket sends to it, or a bucket watches it
abbrev pub group_names : ℕ → TextGroup → Bool
group_names n g = list_any (λ b. list_any (is_to_group n) b.actions || (is_watching g.head.kind && (b.head.watch_group == n))) g.buckets

-- an action of the entry does, in APPLY_ACTIONS or in WRITE_ACTIONS
abbrev pub flow_names : ℕ → Flow → Bool
flow_names n f = list_any (some_action (is_to_group n)) f.instructions

abbrev pub table_names : ℕ → List Flow → Bool
table_names n flows = list_any (flow_names n) flows

-- SOME ENTRY OR SOME GROUP NAMES THE GROUP
abbrev pub is_named : Configuration → ℕ → Bool
is_named c n = list_any (table_names n) c.tables || list_any (group_names n) c.groups
