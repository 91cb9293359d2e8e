-- FLOW_MOD IN WORDS (OpenFlow 1.3.5, 7.3.4.1): what `ovs-ofctl` reads as a flow, behind a command.
use Rattle.std.specs.Prelude.{ℕ, ◌&&◌, not, Bool, List, [], ◌++◌, codes, Option, Some, None, Ok, Err, false, true, if◌then◌else◌}
use Rattle.std.specs.{List.list_any, Str.bytes_eq}
use Rattle.of_wire.specs.{declared.code.Code.Code, declared.limits.TheConstants.OFPTT_ALL, Refusals.first_of}
use Rattle.of_actions.specs.InstructionLists.{are_kept}
use Rattle.of_text.specs.{Flows.Flow, First.refusals_behind}
use Rattle.of_messages.specs.{declared.message.FlowMod.FlowMod, declared.message.FlowModCommand.FlowModCommand}
use Rattle.of_messages.specs.declared.message.FlowModCommand.TheVariants.{Add, Modify, Delete}
use Rattle.of_messages.specs.{Messages.is_delete, Written.flow_mod_bytes}
use Rattle.of_build.specs.Listing.{add_of}
use Rattle.of_ovs_words.specs.Words.{word_name, words_from}
use Rattle.of_ovs_lines.specs.LineContents as contents
use Rattle.of_ovs_lines.specs.LineContents.{LineContent, parsed_line}
use Rattle.of_ovs_text.specs.Reasons.{BytesOrReason, Faults, Refused, reason_of_refusal, reason_of_word}
use Rattle.of_ovs_text.specs.Cutting.{behind_command, leading_word}

-- what a line says, none of whose words may be left out
abbrev pub content_of_line : List ℕ → LineContent
content_of_line line = parsed_line (record { skip = false; renumber = false }) [] line

-- OFPFC_*
unfoldable pub flow_command_named : List ℕ → Option FlowModCommand
flow_command_named word =
    if bytes_eq word (codes "add") then Some Add
    else if bytes_eq word (codes "modify") then Some (Modify false)
    else if bytes_eq word (codes "modify_strict") then Some (Modify true)
    else if bytes_eq word (codes "delete") then Some (Delete false)
    else if bytes_eq word (codes "delete_strict") then Some (Delete true)
    else None

abbrev pub flow_command : List ℕ → FlowModCommand × List ℕ
flow_command text = behind_command Add text (flow_command_named (leading_word text))

-- a DELETE has no actions
abbrev pub flow_mod_line : FlowModCommand → List ℕ → List ℕ
flow_mod_line command words = if is_delete command then words ++ codes ",actions=drop" else words

abbrev pub has_table_word : List ℕ → Bool
has_table_word words = list_any (λ word. bytes_eq (word_name word) (codes "table")) (words_from 0 words)

-- a DELETE without a table is about all tables
abbrev pub table_said : FlowModCommand → List ℕ → Flow → ℕ
table_said command words f = if is_delete command && not (has_table_word words) then OFPTT_ALL else f.head.table

-- THE FLOW_MOD: that which adds the flow, with another command and table
abbrev pub commanded_flow_mod : FlowModCommand → ℕ → Flow → FlowMod
commanded_flow_mod command table f = record (add_of f) { command = command; table = table }

-- the refusal of a flow as the only one of a switch without groups
abbrev pub lone_refusal : Flow → Option Code
lone_refusal f = first_of (refusals_behind [] [] f)

abbrev pub without_instructions : Flow → Flow
without_instructions f = record f { instructions = [] }

-- what FLOW_MODs cannot say is refused: a table, a flag or a match; then instructions
abbrev pub flow_mod_unless : Option Code → ℕ → FlowModCommand → ℕ → Flow → BytesOrReason
flow_mod_unless (Some code) xid command table f = Err (Refused code)
flow_mod_unless None xid command table f =
    if are_kept f.instructions then Ok (flow_mod_bytes xid (commanded_flow_mod command table f)) else Err (reason_of_refusal (lone_refusal f))

unfoldable pub flow_mod_said : ℕ → FlowModCommand → ℕ → Flow → BytesOrReason
flow_mod_said xid command table f = flow_mod_unless (lone_refusal (without_instructions f)) xid command table f

abbrev pub flow_content_said : ℕ → FlowModCommand → List ℕ → LineContent → BytesOrReason
flow_content_said xid command words (contents.Flow f marks) = flow_mod_said xid command (table_said command words f) f
flow_content_said xid command words (contents.Refused faults) = Err (Faults faults)
flow_content_said xid command words other = Err (reason_of_word words)

abbrev pub commanded_flow : ℕ → FlowModCommand × List ℕ → BytesOrReason
commanded_flow xid c = flow_content_said xid c.0 c.1 (content_of_line (flow_mod_line c.0 c.1))

-- [COMMAND] WORDS
unfoldable pub flow_words_said : ℕ → List ℕ → BytesOrReason
flow_words_said xid text = commanded_flow xid (flow_command text)
