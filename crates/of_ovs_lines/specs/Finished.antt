-- THE FLOW OF ITS WORDS.
use Rattle.std.specs.Prelude.{ℕ, ◌^◌, ◌==◌, ◌&&◌, not, nat_le, nat_lt, Bool, true, List, [], ◌∷◌, ◌++◌, length, codes, find, slice_index_or, Option, Some, None, if◌then◌else◌}
use Rattle.std.specs.{Option.option_map, Option.option_map_or, List.list_all}
use Rattle.of_layers.specs.{declared.field.Field.Field, declared.field.Prerequisite.Prerequisite, Fields.ones_of, Fields.prerequisite_of}
use Rattle.of_layers.specs.declared.field.Prerequisite.TheVariants as needs
use Rattle.of_oxm.specs.{Prerequisites.is_met, declared.match_field.MatchField.MatchField}
use Rattle.of_actions.specs.declared.argument.Argument.TheVariants.{Nothing, Byte, Tag, Word, Port, Field as FieldValue}
use Rattle.of_actions.specs.declared.instruction.Instruction.TheVariants.{Apply, Clear, Write, Metadata, Goto}
use Rattle.of_actions.specs.{declared.action.Action.Action, declared.argument.Argument.Argument, declared.instruction.Instruction.Instruction, Rows.said}
use Rattle.of_text.specs.Flows.{Flow}
use Rattle.of_ovs_words.specs.{declared.why.Why.Why, Matches.fields_of_settings, FieldWords.text_for}
use Rattle.of_ovs_words.specs.declared.why.Why.TheVariants as whys
use Rattle.of_ovs_lines.specs.PartialFlows.{PartialFlow, Refusal}

abbrev pub when : {A : Type 0} → Bool → A → List A
when wanted a = if wanted then a ∷ [] else []

abbrev pub metadata_instruction : Option (ℕ × ℕ) → List Instruction
metadata_instruction None = []
metadata_instruction (Some m) = Metadata m.0 m.1 ∷ []

abbrev pub goto_instruction : Option ℕ → List Instruction
goto_instruction None = []
goto_instruction (Some table) = Goto table ∷ []

-- in execution order (OpenFlow 1.3.5, 5.9)
abbrev pub instructions_of : PartialFlow → List Instruction
instructions_of s = when (not (length s.apply == 0)) (Apply s.apply) ++ when s.clears Clear ++ when s.writes (Write s.write) ++ metadata_instruction s.metadata ++ goto_instruction s.goto

-- ---- each number fits its place

abbrev pub field_fits : MatchField → Bool
field_fits e = nat_le e.value (ones_of e.field) && option_map_or (λ mask. nat_lt 0 mask && nat_lt mask (ones_of e.field)) e.mask true

abbrev pub argument_fits : Argument → Bool
argument_fits Nothing = true
argument_fits (Byte n) = nat_lt n (2 ^ 8)
argument_fits (Tag type) = nat_lt type (2 ^ 16)
argument_fits (Word n) = nat_lt n (2 ^ 32)
argument_fits (Port port max_len) = nat_lt port (2 ^ 32) && nat_lt max_len (2 ^ 16)
argument_fits (FieldValue f value) = nat_le value (ones_of f)

abbrev pub action_fits : Action → Bool
action_fits a = argument_fits (said a).1

abbrev pub numbers_fit : PartialFlow → Bool
numbers_fit s = list_all field_fits (fields_of_settings s.settings) && list_all action_fits s.apply && list_all action_fits s.write

-- ---- prerequisites (OpenFlow 1.3.5, 7.2.3.8)

abbrev pub why_missing : Prerequisite → Why
why_missing needs.Tag = whys.NeedsTag
why_missing needs.Ip = whys.NeedsIp
why_missing needs.Ipv4 = whys.NeedsIpv4
why_missing needs.Ipv6 = whys.NeedsIpv6
why_missing needs.Arp = whys.NeedsArp
why_missing needs.Tcp = whys.NeedsTcp
why_missing needs.Udp = whys.NeedsUdp
why_missing needs.Icmpv4 = whys.NeedsIcmp
why_missing needs.Icmpv6 = whys.NeedsIcmp6
why_missing needs.Nothing = whys.Unknown

abbrev pub refused_field : Field → Refusal
refused_field f = record { word = text_for f; why = why_missing (prerequisite_of f) }

-- the first field whose prerequisite is not in the match
abbrev pub first_unmet : List MatchField → Option MatchField
first_unmet fields = find (λ e. not (is_met fields (prerequisite_of e.field))) fields

-- WHY the words are no flow, if none of them is refused
unfoldable pub refusal_of : PartialFlow → Option Refusal
refusal_of s =
    if not s.in_actions then Some (record { word = codes "actions"; why = whys.Missing })
    else if not (numbers_fit s) then Some (record { word = codes "actions"; why = whys.Value })
    else option_map (λ e. refused_field e.field) (first_unmet (fields_of_settings s.settings))

-- THE FLOW of its words
abbrev pub finished_flow : PartialFlow → Flow
finished_flow s = record { head = s.head; fields = fields_of_settings s.settings; instructions = instructions_of s }

-- ---- tables

-- the new number of a table, where the list has one
abbrev pub new_table_number : List ℕ → ℕ → ℕ
new_table_number numbers n = slice_index_or numbers n n

abbrev pub in_numbers : List ℕ → PartialFlow → PartialFlow
in_numbers numbers s = record s { head = record s.head { table = new_table_number numbers s.head.table }; goto = option_map (new_table_number numbers) s.goto }
