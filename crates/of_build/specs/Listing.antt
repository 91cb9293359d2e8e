-- THE MESSAGES THAT BUILD A CONFIGURATION on a new switch: a controller adds each group by a GROUP_MOD and each flow by a FLOW_MOD.
use Rattle.std.specs.Prelude.{ℕ, ◌+◌, ◌==◌, Bool, List, [], ◌∷◌, ◌++◌, filter, length, map, if◌then◌else◌}
use Rattle.of_wire.specs.declared.limits.TheConstants.{OFP_NO_BUFFER, OFPP_ANY, OFPG_ANY}
use Rattle.of_messages.specs.{declared.message.FlowMod.FlowMod, declared.message.FlowModCommand.TheVariants.Add, declared.group_mod.NewGroup.NewGroup, Written.flow_mod_bytes}
use Rattle.of_messages.specs.CanonicalGroups.{group_add_bytes}
use Rattle.of_groups.specs.Chains.{chain}
use Rattle.of_text.specs.{Groups.TextGroup, Groups.bucket_text, Groups.buckets_of, Groups.groups_at, Flows.Flow, Configs.Configuration, Configs.all_flows}

-- the FLOW_MOD that adds a flow (OpenFlow 1.3.5, 7.3.4.1): no buffer, any port and any group (all ones), masks of 0
abbrev pub add_of : Flow → FlowMod
add_of f = record {
  cookie = f.head.cookie;
  cookie_mask = 0;
  table = f.head.table;
  command = Add;
  idle_timeout = f.head.idle;
  hard_timeout = f.head.hard;
  priority = f.head.priority;
  buffer = OFP_NO_BUFFER;
  out_port = OFPP_ANY;
  out_group = OFPG_ANY;
  flags = f.head.flags;
  fields = f.fields;
  instructions = f.instructions;
}

-- the group that a GROUP_MOD adds (7.3.4.2)
abbrev pub new_of : TextGroup → NewGroup
new_of g = record { id = g.head.id; kind = g.head.kind; buckets = buckets_of g }

-- and back: the group that a GROUP_MOD says
abbrev pub new_group_text : NewGroup → TextGroup
new_group_text g = record { head = record { id = g.id; kind = g.kind }; buckets = map bucket_text g.buckets }

-- the group alone, if it is wanted
abbrev pub those : Bool → TextGroup → List TextGroup
those wanted g = if wanted then g ∷ [] else []

-- those whose longest chain has this length, where all groups exist, in their order
abbrev pub of_length : List TextGroup → ℕ → List TextGroup → List TextGroup
of_length all n groups = filter (λ g. chain (groups_at 0 all) g.head.id == n) groups

-- GROUPS IN TURN: by ascending length of the longest chain that begins there, so that each comes after those that it names (6.5); then by number
abbrev pub in_turn : List TextGroup → List TextGroup
in_turn groups = of_length groups 1 groups ++ (of_length groups 2 groups ++ of_length groups 3 groups)

-- a GROUP_MOD for each group (OpenFlow 1.3.5, 7.3.4.2), with transaction ids from this one on
abbrev pub group_adds : ℕ → List TextGroup → List (List ℕ)
group_adds xid [] = []
group_adds xid (g ∷ gs) = group_add_bytes xid (new_of g) ∷ group_adds (xid + 1) gs

-- a FLOW_MOD for each flow (7.3.4.1), with transaction ids from this one on
abbrev pub flow_adds : ℕ → List Flow → List (List ℕ)
flow_adds xid [] = []
flow_adds xid (f ∷ fs) = flow_mod_bytes xid (add_of f) ∷ flow_adds (xid + 1) fs

-- THE MESSAGES of a configuration: its groups in turn, then its flows by table, and in a table the oldest first
unfoldable pub messages_of : Configuration → List (List ℕ)
messages_of c = group_adds 1 (in_turn c.groups) ++ flow_adds (1 + length (in_turn c.groups)) (all_flows c.tables)
