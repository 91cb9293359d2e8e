-- THE CONFIGURATION THAT A LIST OF MESSAGES SAYS, beside each other: GROUP_MODs that add groups, in ascending order of number, and then FLOW_MODs that add flows (OpenFlow 1.3.5, 7.3.4.1 and 7.3.4.2); or the first of them that is at fault.
use Rattle.std.specs.Prelude.{ℕ, ◌+◌, ◌==◌, ◌&&◌, nat_le, nat_lt, Bool, true, false, List, [], ◌∷◌, length, slice_index_or, Option, Some, None, Result, Ok, Err, if◌then◌else◌}
use Rattle.of_wire.specs.{declared.limits.TheConstants.OFPG_MAX, declared.limits.TheConstants.OFP_NO_BUFFER, declared.code.Code.Code}
use Rattle.of_messages.specs.{declared.message.Message.Message, declared.message.Message.TheVariants.FlowMod as AFlowMod, declared.message.Message.TheVariants.GroupMod as AGroupMod}
use Rattle.of_messages.specs.{declared.message.FlowMod.FlowMod, declared.message.FlowModCommand.FlowModCommand, declared.group_mod.GroupMod.TheVariants.Add, Messages.message_of, Messages.type_of}
use Rattle.of_messages.specs.declared.message.FlowModCommand.TheVariants as command
use Rattle.of_formats.specs.{declared.messages.TheConstants.GROUP_MOD, Structs.numbers}
use Rattle.of_formats.specs.Tables as tables
use Rattle.of_groups.specs.declared.group.GroupKind.TheVariants.{All}
use Rattle.of_text.specs.{Groups.TextGroup, Flows.Flow, First.first_refusal, Configs.Configuration, Configs.tables_of_flows}
use Rattle.of_build.specs.Listing.{new_group_text}
use Rattle.of_laws.specs.declared.fault.ConfigFault.{ConfigFault}
use Rattle.of_laws.specs.declared.fault.ConfigFault.TheVariants.{NoMemory, NotACommand, Refused}

-- ---- WHAT A MESSAGE ADDS

pub data Said : Type 0 where
  IsGroup : (group : TextGroup) → Said
  IsFlow : (flow : Flow) → Said
  -- neither
  Other : Said
  -- it is refused by itself; the group that it would add counts as there
  Bad : (code : Code) → (counted : Option TextGroup) → Said

abbrev pub flow_said : FlowMod → Flow
flow_said m = record {
  head = record { table = m.table; priority = m.priority; cookie = m.cookie; idle = m.idle_timeout; hard = m.hard_timeout; flags = m.flags };
  fields = m.fields;
  instructions = m.instructions;
}

abbrev pub is_add_command : FlowModCommand → Bool
is_add_command command.Add = true
is_add_command other = false

-- one that begins a held packet is none: here no packet is held
abbrev pub added_by_message : Message → Said
added_by_message (AGroupMod (Add g)) = IsGroup (new_group_text g)
added_by_message (AFlowMod m) = if is_add_command m.command && m.buffer == OFP_NO_BUFFER then IsFlow (flow_said m) else Other
added_by_message other = Other

-- of a GROUP_MOD that is refused, with OFPGC_ADD and a number that a group may have: the group without buckets, so it names no group
abbrev pub bare_group : List ℕ → Option TextGroup
bare_group (command ∷ type ∷ id ∷ []) = if command == 0 && nat_le id OFPG_MAX then Some (record { head = record { id = id; kind = All }; buckets = [] }) else None
bare_group other = None

abbrev pub counted_group : List ℕ → Option TextGroup
counted_group m = if nat_le 16 (length m) && type_of m == GROUP_MOD then bare_group (numbers tables.group_mod 8 m) else None

abbrev pub said_by : List ℕ → Result Message Code → Said
said_by m (Ok message) = added_by_message message
said_by m (Err code) = Bad code (counted_group m)

-- as it is read by itself, from a controller whose role is equal
abbrev pub message_said : List ℕ → Said
message_said m = said_by m (message_of m)

-- ---- WHAT THE MESSAGES ADD: groups and flows, with the places of their messages, and the first that is at fault by itself or where it stands

pub record Listed : Type 0 where
  pub places : List ℕ
  pub groups : List TextGroup
  pub flows : List Flow
  pub fault : Option ConfigFault

abbrev pub nothing_listed : Listed
nothing_listed = record { places = []; groups = []; flows = []; fault = None }

abbrev pub with_listed_group : ℕ → TextGroup → Listed → Listed
with_listed_group place g l = record l { places = place ∷ l.places; groups = g ∷ l.groups }

abbrev pub with_listed_flow : ℕ → Flow → Listed → Listed
with_listed_flow place f l = record l { places = place ∷ l.places; flows = f ∷ l.flows }

abbrev pub with_fault : ConfigFault → Listed → Listed
with_fault fault l = record l { fault = Some fault }

-- A group's number is this one at least, and the next group's is higher; after a flow comes none. `rest` is what follows.
abbrev pub group_listed : (place least : ℕ) → TextGroup → (rest : ℕ → Listed) → Listed
group_listed place least g rest = if nat_le least g.head.id then with_listed_group place g (rest (g.head.id + 1)) else with_fault (NotACommand place) (rest least)

abbrev pub listed_by : (place least : ℕ) → Said → (rest : ℕ → Listed) → Listed
listed_by place least (IsGroup g) rest = group_listed place least g rest
listed_by place least (IsFlow f) rest = with_listed_flow place f (rest 0x100000000)
listed_by place least Other rest = with_fault (NotACommand place) (rest least)
listed_by place least (Bad code None) rest = with_fault (Refused place code) (rest least)
listed_by place least (Bad code (Some g)) rest = with_fault (Refused place code) (group_listed place least g rest)

abbrev pub listed_messages : (place least : ℕ) → List (List ℕ) → Listed
listed_messages place least [] = nothing_listed
listed_messages place least (m ∷ ms) = listed_by place least (message_said m) (λ next. listed_messages (place + 1) next ms)

-- ---- THE FIRST FAULT: that one, or where it comes earlier the first group or flow that is refused beside all that the messages add

abbrev pub fault_place : ConfigFault → ℕ
fault_place NoMemory = 0
fault_place (NotACommand place) = place
fault_place (Refused place code) = place

abbrev pub refused_at : List ℕ → Option (ℕ × Code) → Option ConfigFault
refused_at places None = None
refused_at places (Some r) = Some (Refused (slice_index_or places r.0 0) r.1)

abbrev pub earlier : Option ConfigFault → Option ConfigFault → Option ConfigFault
earlier None refused = refused
earlier (Some fault) None = Some fault
earlier (Some fault) (Some refused) = Some (if nat_lt (fault_place refused) (fault_place fault) then refused else fault)

abbrev pub first_fault : Listed → Option ConfigFault
first_fault l = earlier l.fault (refused_at l.places (first_refusal l.groups l.flows))

abbrev pub unless_fault : Option ConfigFault → Configuration → Result Configuration ConfigFault
unless_fault None c = Ok c
unless_fault (Some fault) c = Err fault

abbrev pub config_listed : Listed → Result Configuration ConfigFault
config_listed l = unless_fault (first_fault l) (record { groups = l.groups; tables = tables_of_flows l.flows })

-- THE CONFIGURATION OF A LIST OF MESSAGES
unfoldable pub config_said : List (List ℕ) → Result Configuration ConfigFault
config_said messages = config_listed (listed_messages 0 0 messages)
