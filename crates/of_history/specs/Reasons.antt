-- WHY THE FATE OF A FRAME CHANGED: by what the message or the row does, and by whether the ways part at a lookup.
use Rattle.std.specs.Prelude.{ℕ, Bool, true, false, List, [], ◌∷◌, ◌++◌, codes, nat_eq, Option, Some, None, Result, Ok, Err, if◌then◌else◌}
use Rattle.std.specs.{List.starts_with, Str.bytes_eq}
use Rattle.of_wire.specs.declared.code.Code.{Code}
use Rattle.of_messages.specs.{declared.message.Message.Message, declared.message.FlowModCommand.FlowModCommand}
use Rattle.of_messages.specs.declared.message.FlowModCommand.TheVariants.{Add, Modify, Delete}
use Rattle.of_messages.specs.{declared.group_mod.GroupMod.GroupMod, Messages.message_of}
use Rattle.of_messages.specs.declared.message.Message.TheVariants as messages
use Rattle.of_messages.specs.declared.group_mod.GroupMod.TheVariants as group
use Rattle.of_text.specs.Lines.{ended, lines_of}
use Rattle.of_history.specs.declared.reason.Reason.TheVariants.{Added, Replaced, Modified, Deleted, Expired, WithGroup, GroupDeleted, Buckets, Port}
use Rattle.of_history.specs.{declared.reason.Reason.Reason, Causes.By}
use Rattle.of_history.specs.Causes as by

-- the line of a lookup: `table 0, priority 1, in_port 2`, or `table 0: no entry matches`
abbrev pub is_lookup : List ℕ → Bool
is_lookup line = starts_with nat_eq line (codes "table ")

-- the first line of a way that another has not at its place is that of a lookup: another entry wins, or none
abbrev pub parts_at_lookup : List (List ℕ) → List (List ℕ) → Bool
parts_at_lookup [] new = false
parts_at_lookup (l ∷ old) [] = is_lookup l
parts_at_lookup (l ∷ old) (m ∷ new) = if bytes_eq l m then parts_at_lookup old new else is_lookup l

-- an ADD of another entry changes who wins; one that replaces the entry leaves it in its place in the way
abbrev pub by_command : FlowModCommand → Bool → Reason
by_command Add true = Added
by_command Add false = Replaced
by_command (Modify strict) at_lookup = Modified
by_command (Delete strict) at_lookup = Deleted

-- with a group go the entries that name it (6.5)
abbrev pub by_group_mod : GroupMod → Bool → Reason
by_group_mod (group.Delete which) true = WithGroup
by_group_mod (group.Delete which) false = GroupDeleted
by_group_mod other at_lookup = Buckets

abbrev pub by_message : Message → Bool → Option Reason
by_message (messages.FlowMod m) at_lookup = Some (by_command m.command at_lookup)
by_message (messages.GroupMod m) at_lookup = Some (by_group_mod m at_lookup)
by_message (messages.PortMod m) at_lookup = Some Port
by_message other at_lookup = None

-- a message that is refused changes nothing
abbrev pub by_reading : Result Message Code → Bool → Option Reason
by_reading (Ok message) at_lookup = by_message message at_lookup
by_reading (Err code) at_lookup = None

-- THE REASON, of the fates before and after; no other row changes one
unfoldable pub fate_reason : By → List ℕ → List ℕ → Option Reason
fate_reason (by.Message k m) old new = by_reading (message_of m) (parts_at_lookup (lines_of old) (lines_of new))
fate_reason (by.Moment expired) old new = Some Expired
fate_reason by.Port old new = Some Port
fate_reason by.Row old new = None

-- ---- in words

abbrev pub fate_reason_words : Reason → List ℕ
fate_reason_words Added = codes "an entry was added, so another one wins"
fate_reason_words Replaced = codes "the entry was replaced"
fate_reason_words Modified = codes "the entry was modified"
fate_reason_words Deleted = codes "the entry was deleted"
fate_reason_words Expired = codes "the entry expired"
fate_reason_words WithGroup = codes "the entry was deleted with its group"
fate_reason_words GroupDeleted = codes "a group was deleted"
fate_reason_words Buckets = codes "the buckets of a group changed"
fate_reason_words Port = codes "a port changed"

abbrev pub fate_reason_note : Option Reason → List ℕ
fate_reason_note None = []
fate_reason_note (Some r) = codes "    reason: " ++ ended (fate_reason_words r)
