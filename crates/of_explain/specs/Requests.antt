-- WHAT A CONTROLLER SAYS: a note for each message that its bytes complete, and below it the lines of flow text that it has.
use Rattle.std.specs.Prelude.{ℕ, zero, suc, List, [], ◌∷◌, ◌++◌, length, map, codes, Result, Ok, Err}
use Rattle.std.specs.List.{flat_map}
use Rattle.of_wire.specs.declared.code.Code.{Code}
use Rattle.of_messages.specs.declared.message.Message.{Message}
use Rattle.of_messages.specs.declared.message.Message.TheVariants.{PacketOut, FlowMod, GroupMod, Multipart}
use Rattle.of_messages.specs.{declared.message.FlowMod.FlowMod as AFlowMod, declared.group_mod.GroupMod.GroupMod as AGroupMod}
use Rattle.of_messages.specs.declared.group_mod.GroupMod.TheVariants.{Add, Modify, Delete}
use Rattle.of_messages.specs.{declared.multipart.MultipartRequest.MultipartRequest, declared.multipart.MultipartRequest.TheVariants.Flow, declared.multipart.MultipartRequest.TheVariants.Aggregate}
use Rattle.of_messages.specs.Messages.{message_of}
use Rattle.of_session.specs.Stream.{First, Whole, Bad, Partial, beginning_of}
use Rattle.of_lines.specs.declared.row.Row.{Row}
use Rattle.of_lines.specs.declared.row.Row.TheVariants as rows
use Rattle.of_text.specs.{Rows.row_encoding, Flows.instruction_rows, Groups.group_rows, Lines.ended, Lines.note}
use Rattle.of_build.specs.Listing.{new_group_text}
use Rattle.of_explain.specs.Messages.{message_words}

-- ---- a message as flow text

-- its match, and its instructions in the order of execution
abbrev pub flow_mod_rows : AFlowMod → List Row
flow_mod_rows m = map rows.Match m.fields ++ flat_map instruction_rows m.instructions

-- the group that it asks for
abbrev pub group_mod_rows : AGroupMod → List Row
group_mod_rows (Add g) = group_rows (new_group_text g)
group_mod_rows (Modify g) = group_rows (new_group_text g)
group_mod_rows (Delete which) = []

-- the match of the entries that are asked for
abbrev pub asked_rows : MultipartRequest → List Row
asked_rows (Flow r) = map rows.Match r.fields
asked_rows (Aggregate r) = map rows.Match r.fields
asked_rows other = []

abbrev pub message_rows : Message → List Row
message_rows (FlowMod m) = flow_mod_rows m
message_rows (GroupMod m) = group_mod_rows m
message_rows (PacketOut m) = map rows.Do m.actions
message_rows (Multipart request) = asked_rows request
message_rows other = []

-- one that is refused by itself has none
abbrev pub rows_said : Result Message Code → List Row
rows_said (Ok message) = message_rows message
rows_said (Err code) = []

-- a line of flow text, after eight spaces
abbrev pub row_line : Row → List ℕ
row_line row = codes "        " ++ ended (row_encoding row)

abbrev pub row_lines : List Row → List ℕ
row_lines said = flat_map row_line said

unfoldable pub said_words : List ℕ → List ℕ
said_words m = codes "from the controller: " ++ message_words m

-- THE NOTES OF A MESSAGE: its words, and its lines of flow text
unfoldable pub request_notes : List ℕ → List ℕ
request_notes m = note (said_words m) ++ row_lines (rows_said (message_of m))

-- ---- the messages of a stream

-- the first message, and then others
abbrev pub and_others : (List ℕ → List (List ℕ)) → First → List (List ℕ)
and_others others (Whole m rest) = m ∷ others rest
and_others others Bad = []
and_others others Partial = []

-- at most n
abbrev pub first_messages : ℕ → List ℕ → List (List ℕ)
first_messages zero bytes = []
first_messages (suc n) bytes = and_others (first_messages n) (beginning_of bytes)

-- all: each has some bytes
unfoldable pub messages_in_bytes : List ℕ → List (List ℕ)
messages_in_bytes bytes = first_messages (length bytes) bytes

-- THE NOTES OF A CHUNK, after the bytes that wait
abbrev pub chunk_notes : List ℕ → List ℕ → List ℕ
chunk_notes waiting chunk = flat_map request_notes (messages_in_bytes (waiting ++ chunk))
