-- What a flow of a text has in common with the FLOW_MOD that adds it.
use Rattle.std.specs.Prelude.{◌≡◌, ℕ, ◌++◌, ◌^◌, ◌<◌, nat_lt, Bool, true, bit_and, ◌⊎◌, List, ◌∷◌, length, Option, Some, None, Result, Ok, Err}
use Rattle.std.specs.List.{AllByRecursion}
use Rattle.of_wire.specs.declared.limits.TheConstants.{ENTRY_FLAGS, FLOW_MOD_FLAGS, OFPG_MAX}
use Rattle.of_wire.specs.{declared.codes.TheConstants.OFPGMFC_INVALID_GROUP, declared.code.Code.Code}
use Rattle.of_oxm.specs.{Canonical.canonical, NormalForm.IsAscending, declared.match_field.MatchField.MatchField}
use Rattle.of_actions.specs.declared.instruction.Instruction.TheVariants.{Apply, Clear, Write, Metadata, Goto}
use Rattle.of_actions.specs.{declared.instruction.Instruction.Instruction, CanonicalInstructions.canonical_instructions, InstructionLists.run_place, Rising.is_ascending}
use Rattle.of_text.specs.{Flows.Flow, Rows.ActionFits, Rows.BucketFits, Rows.FieldFits, Rows.HeadFits, Groups.TextBucket, Groups.TextGroup, Groups.buckets_of, Refusals.buckets_refusals}
use Rattle.of_messages.specs.{CanonicalGroups.canonical_buckets, declared.group_mod.NewGroup.NewGroup, declared.group_mod.GroupMod.TheVariants.Add, declared.message.FlowMod.FlowMod}
use Rattle.of_messages.specs.{declared.message.Message.Message, declared.message.Message.TheVariants.FlowMod as IsFlowMod, declared.message.Message.TheVariants.GroupMod as IsGroupMod}

-- numbers fit their bytes
abbrev pub InstructionFits : Instruction → Type 0
InstructionFits (Apply actions) = AllByRecursion ActionFits actions
InstructionFits Clear = Unit {0}
InstructionFits (Write actions) = AllByRecursion ActionFits actions
InstructionFits (Metadata value mask) = (value < 2 ^ 64) × (mask < 2 ^ 64)
InstructionFits (Goto table) = table < 2 ^ 8

-- a match with the size of its encoding, or its first refusal
abbrev pub match_outcome : List MatchField → Option Code → Result (List MatchField × ℕ) Code
match_outcome fields None = Ok (fields, length (canonical fields))
match_outcome fields (Some code) = Err code

-- a FLOW_MOD that is read, or its first refusal
abbrev pub message_outcome : FlowMod → Option Code → Result Message Code
message_outcome m None = Ok (IsFlowMod m)
message_outcome m (Some code) = Err code

-- A FLOW THAT A FLOW_MOD CAN SAY: numbers fit their bytes, its match ascends, its instructions are in running order, and both fit a message with the fixed fields. A FLOW_MOD may have flags 2 and 4, which a text may not: the flow has neither, or it has one that both refuse.
pub record IsSaid (f : Flow) : Type 0 where
  pub head : HeadFits f.head
  pub fields : AllByRecursion FieldFits f.fields
  pub ascending : IsAscending f.fields
  pub instructions : AllByRecursion InstructionFits f.instructions
  pub in_order : is_ascending run_place f.instructions ≡ true
  pub short : length (canonical f.fields ++ canonical_instructions f.instructions) < 65488
  pub flags : (bit_and f.head.flags ENTRY_FLAGS ≡ f.head.flags) ⊎ (FLOW_MOD_FLAGS < f.head.flags)

-- ---- groups

-- a GROUP_MOD that is read, or its first refusal
abbrev pub group_outcome : NewGroup → Option Code → Result Message Code
group_outcome g None = Ok (IsGroupMod (Add g))
group_outcome g (Some code) = Err code

-- numbers fit their bytes
abbrev pub IsSaidBucket : TextBucket → Type 0
IsSaidBucket b = BucketFits b.head × AllByRecursion ActionFits b.actions

-- A GROUP THAT A GROUP_MOD CAN SAY: and its buckets fit a message
pub record IsSaidGroup (g : TextGroup) : Type 0 where
  pub number : g.head.id < 2 ^ 32
  pub buckets : AllByRecursion IsSaidBucket g.buckets
  pub short : length (canonical_buckets (buckets_of g)) < 65520

-- the refusals of a group that a message decides without the switch: the first of `group_refusals`
abbrev pub said_refusals : TextGroup → List (Bool × Code)
said_refusals g = (nat_lt OFPG_MAX g.head.id, OFPGMFC_INVALID_GROUP) ∷ buckets_refusals g.buckets
