-- THE MESSAGE OF A CONTROLLER THAT WORDS SAY: a kind, and the words of that kind.
use Rattle.std.specs.Prelude.{ℕ, List, codes, Option, Some, None, Result, Ok, Err, if◌then◌else◌}
use Rattle.std.specs.Str.{bytes_eq}
use Rattle.of_wire.specs.declared.code.Code.{Code}
use Rattle.of_messages.specs.{declared.message.Message.Message, Messages.message_of}
use Rattle.of_ovs_text.specs.{Cutting.after_leading, Cutting.leading_word, Short.bare_words_said, Short.bare_type, Short.config_words_said, Short.role_words_said, MessageFlows.flow_words_said}
use Rattle.of_ovs_text.specs.{MessageGroups.group_words_said, PacketOuts.packet_words_said, Reasons.BytesOrReason, Reasons.Kind, Reasons.Refused}

-- a kind with content
abbrev pub said_of_kind : ℕ → List ℕ → List ℕ → BytesOrReason
said_of_kind xid kind rest =
    if bytes_eq kind (codes "flow") then flow_words_said xid rest
    else if bytes_eq kind (codes "group") then group_words_said xid rest
    else if bytes_eq kind (codes "packet-out") then packet_words_said xid rest
    else if bytes_eq kind (codes "role") then role_words_said xid rest
    else if bytes_eq kind (codes "set-config") then config_words_said xid rest
    else Err Kind

abbrev pub said_of_type : ℕ → List ℕ → List ℕ → Option ℕ → BytesOrReason
said_of_type xid kind rest (Some type) = bare_words_said xid type rest
said_of_type xid kind rest None = said_of_kind xid kind rest

-- the bytes, whether or not the switch refuses them
unfoldable pub bytes_said : ℕ → List ℕ → List ℕ → BytesOrReason
bytes_said xid kind rest = said_of_type xid kind rest (bare_type kind)

-- as the switch reads them
abbrev pub bytes_unless_refused : List ℕ → Result Message Code → BytesOrReason
bytes_unless_refused bytes (Ok message) = Ok bytes
bytes_unless_refused bytes (Err code) = Err (Refused code)

abbrev pub read_said : BytesOrReason → BytesOrReason
read_said (Ok bytes) = bytes_unless_refused bytes (message_of bytes)
read_said (Err reason) = Err reason

-- THE MESSAGE with that transaction id that words say, which the switch reads; or why there is none
unfoldable pub message_in_words : ℕ → List ℕ → BytesOrReason
message_in_words xid words = read_said (bytes_said xid (leading_word words) (after_leading words))
