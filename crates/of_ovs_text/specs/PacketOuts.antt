-- PACKET_OUT IN WORDS (OpenFlow 1.3.5, 7.3.7): the words of a flow whose match is the ingress port, and whose actions are those of the message, and the frame.
use Rattle.std.specs.Prelude.{ℕ, ◌^◌, nat_lt, true, List, [], ◌∷◌, ◌++◌, codes, length, Option, Some, None, Result, Ok, Err, if◌then◌else◌}
use Rattle.std.specs.Str.{bytes_eq}
use Rattle.hex.specs.Hex.{decode_of}
use Rattle.of_wire.specs.declared.limits.TheConstants.{OFP_NO_BUFFER}
use Rattle.of_formats.specs.{declared.messages.TheConstants.PACKET_OUT, Structs.written}
use Rattle.of_formats.specs.Tables as tables
use Rattle.of_layers.specs.{declared.field.Field.Field, declared.field.Field.TheVariants.InPort}
use Rattle.of_oxm.specs.declared.match_field.MatchField.{MatchField}
use Rattle.of_actions.specs.{declared.action.Action.Action, declared.instruction.Instruction.Instruction, declared.instruction.Instruction.TheVariants.Apply, CanonicalActions.canonical_actions}
use Rattle.of_actions.specs.Supported.{are_supported}
use Rattle.of_text.specs.Flows.{Flow}
use Rattle.of_messages.specs.Written.{message}
use Rattle.of_ovs_words.specs.Words.{word_name, word_value, words_from}
use Rattle.of_ovs_lines.specs.LineContents as contents
use Rattle.of_ovs_lines.specs.LineContents.{LineContent, with_words}
use Rattle.of_ovs_text.specs.Reasons.{BytesOrReason, Faults, Missing, Word, reason_of_refusal}
use Rattle.of_ovs_text.specs.MessageFlows.{content_of_line, lone_refusal}

-- the hex digits of the frame, and the other words, with a comma behind each
pub record PacketWords : Type 0 where
  pub frame : Option (List ℕ)
  pub others : List ℕ

abbrev pub no_packet_words : PacketWords
no_packet_words = record { frame = None; others = [] }

-- packet=HEX, of which the last counts, or another word
unfoldable pub with_packet_word : PacketWords → List ℕ → PacketWords
with_packet_word s word =
    if bytes_eq (word_name word) (codes "packet") then record s { frame = Some (word_value word) }
    else record s { others = (s.others ++ word) ++ 44 ∷ [] }

abbrev pub packet_out_words : List ℕ → PacketWords
packet_out_words text = with_words with_packet_word no_packet_words (words_from 0 text)

abbrev pub ingress_by : Field → Option ℕ → ℕ → Option ℕ
ingress_by InPort None value = if nat_lt value (2 ^ 32) then Some value else None
ingress_by other mask value = None

-- the ingress port, if the match has no other field
abbrev pub lone_ingress : List MatchField → Option ℕ
lone_ingress (e ∷ []) = ingress_by e.field e.mask e.value
lone_ingress other = None

abbrev pub actions_by : Instruction → Option (List Action)
actions_by (Apply actions) = Some actions
actions_by other = None

-- the actions, if there is no other instruction
abbrev pub applied_actions : List Instruction → Option (List Action)
applied_actions [] = Some []
applied_actions (instruction ∷ []) = actions_by instruction
applied_actions other = None

-- without a buffer
abbrev pub packet_out_bytes : ℕ → ℕ → List ℕ → List ℕ → List ℕ
packet_out_bytes xid in_port actions frame = message PACKET_OUT xid (written tables.packet_out (OFP_NO_BUFFER ∷ in_port ∷ length actions ∷ []) ++ (actions ++ frame))

abbrev pub packet_with : ℕ → List ℕ → Flow → Option ℕ → Option (List Action) → BytesOrReason
packet_with xid frame f (Some in_port) (Some actions) =
    if are_supported true actions then Ok (packet_out_bytes xid in_port (canonical_actions actions) frame) else Err (reason_of_refusal (lone_refusal f))
packet_with xid frame f in_port actions = Err Missing

unfoldable pub packet_of_flow : ℕ → List ℕ → Flow → BytesOrReason
packet_of_flow xid frame f = packet_with xid frame f (lone_ingress f.fields) (applied_actions f.instructions)

abbrev pub packet_content_said : ℕ → List ℕ → LineContent → BytesOrReason
packet_content_said xid frame (contents.Flow f marks) = packet_of_flow xid frame f
packet_content_said xid frame (contents.Refused faults) = Err (Faults faults)
packet_content_said xid frame other = Err Missing

abbrev pub packet_by : {E : Type 0} → ℕ → List ℕ → List ℕ → Result (List ℕ) E → BytesOrReason
packet_by xid digits others (Ok frame) = packet_content_said xid frame (content_of_line others)
packet_by xid digits others (Err e) = Err (Word digits)

abbrev pub packet_by_digits : ℕ → Option (List ℕ) → List ℕ → BytesOrReason
packet_by_digits xid (Some digits) others = packet_by xid digits others (decode_of digits)
packet_by_digits xid None others = Err Missing

-- in_port=PORT,packet=HEX,actions=ACTIONS
unfoldable pub packet_words_said : ℕ → List ℕ → BytesOrReason
packet_words_said xid text = packet_by_digits xid (packet_out_words text).frame (packet_out_words text).others
