-- WHAT LEAVES A SWITCH, IN WORDS: a line for each item; and the lines of the frame that came in.
use Rattle.std.specs.Prelude.{ℕ, ◌+◌, ◌==◌, Bool, false, List, [], ◌∷◌, ◌++◌, codes, decimal, Option, Some, None, if◌then◌else◌}
use Rattle.std.specs.Str.{bytes_eq}
use Rattle.hex.specs.Hex.{encode_lower}
use Rattle.of_wire.specs.declared.reasons.PacketInReason.{PacketInReason}
use Rattle.of_wire.specs.declared.reasons.PacketInReason.TheVariants.{NoMatch, Action, InvalidTtl}
use Rattle.of_machine.specs.{declared.data.Item.Item, declared.data.Item.TheVariants.PacketIn, declared.data.Item.TheVariants.Sent, declared.data.ToController.ToController}
use Rattle.of_values.specs.Numbers.{hexadecimal}
use Rattle.of_frame_words.specs.Printed.{frame_words_of}

-- ---- what leaves: `out by port 3: HEX`, or `to the controller: action, table 1, cookie 0x2a: HEX` (7.4.1)

abbrev pub reason_said : PacketInReason → List ℕ
reason_said NoMatch = codes "no match"
reason_said Action = codes "action"
reason_said InvalidTtl = codes "invalid TTL"

-- a number that is not 0
abbrev pub part_unless_zero : List ℕ → ℕ → List ℕ
part_unless_zero words n = if n == 0 then [] else words ++ hexadecimal 1 n

-- how many bytes of the packet the OUTPUT action sends, if not all (7.2.5)
abbrev pub first_bytes : ℕ → List ℕ
first_bytes n = if n == 0xffff then [] else codes ", the first " ++ decimal n ++ codes " bytes"

unfoldable pub first_bytes_part : Option ℕ → List ℕ
first_bytes_part None = []
first_bytes_part (Some n) = first_bytes n

unfoldable pub packet_in_reason : PacketInReason → ℕ → List ℕ
packet_in_reason reason table = codes "to the controller: " ++ reason_said reason ++ codes ", table " ++ decimal table

unfoldable pub packet_in_parts : ToController → List ℕ
packet_in_parts p = part_unless_zero (codes ", cookie ") p.cookie ++ part_unless_zero (codes ", metadata ") p.metadata ++ first_bytes_part p.max_len

unfoldable pub packet_in_words : ToController → List ℕ
packet_in_words p = packet_in_reason p.reason p.table ++ packet_in_parts p

-- a line, behind the name of the switch
unfoldable pub packet_line : List ℕ → ToController → List ℕ
packet_line who p = who ++ packet_in_words p ++ codes ": " ++ encode_lower p.frame ++ 10 ∷ []

-- ports by which the same frame leaves are in one line: `out by ports 1 to 3, 5: HEX`

abbrev pub range_words : ℕ → ℕ → List ℕ
range_words low high = decimal low ++ (if high == low then [] else codes " to " ++ decimal high)

-- after a range from one number to another
abbrev pub ranges_words : ℕ → ℕ → List ℕ → List ℕ
ranges_words low high [] = range_words low high
ranges_words low high (p ∷ ports) = if p == high + 1 then ranges_words low p ports else range_words low high ++ codes ", " ++ ranges_words p p ports

abbrev pub out_words : List ℕ → List ℕ
out_words [] = codes "out by port "
out_words (p ∷ ports) = codes "out by ports "

-- the ports by which the next items send this frame
abbrev pub ports_of_frame : List ℕ → List Item → List ℕ
ports_of_frame frame [] = []
ports_of_frame frame (Sent port other ∷ items) = if bytes_eq other frame then port ∷ ports_of_frame frame items else []
ports_of_frame frame (PacketIn p ∷ items) = []

unfoldable pub sent_line : List ℕ → ℕ → List ℕ → List ℕ → List ℕ
sent_line who port frame others = who ++ out_words others ++ ranges_words port port others ++ codes ": " ++ encode_lower frame ++ 10 ∷ []

-- the item before sent this frame, so that its line names the port
abbrev pub has_sent : Option Item → List ℕ → Bool
has_sent None frame = false
has_sent (Some (Sent port other)) frame = bytes_eq other frame
has_sent (Some (PacketIn p)) frame = false

abbrev pub side_line : List ℕ → Option Item → Item → List Item → List ℕ
side_line who before (Sent port frame) items = if has_sent before frame then [] else sent_line who port frame (ports_of_frame frame items)
side_line who before (PacketIn p) items = packet_line who p

-- the lines of items, after another one
abbrev pub side_lines : List ℕ → Option Item → List Item → List ℕ
side_lines who before [] = []
side_lines who before (item ∷ items) = side_line who before item items ++ side_lines who (Some item) items

abbrev pub side_words : List ℕ → List Item → List ℕ
side_words who [] = who ++ codes "nothing leaves" ++ 10 ∷ []
side_words who (item ∷ items) = side_lines who None (item ∷ items)

-- ---- the frame that came in: its port and bytes as `trace` takes them, and below them words that it takes for the same frame, if there are such

unfoldable pub bytes_line : ℕ → List ℕ → List ℕ
bytes_line port frame = codes "    frame: --port " ++ decimal port ++ 32 ∷ encode_lower frame ++ 10 ∷ []

unfoldable pub frame_words_line : List ℕ → List ℕ
frame_words_line words = codes "    in words: " ++ words ++ 10 ∷ []

abbrev pub in_words : Option (List ℕ) → List ℕ
in_words None = []
in_words (Some words) = frame_words_line words

unfoldable pub frame_lines : ℕ → List ℕ → List ℕ
frame_lines port frame = bytes_line port frame ++ in_words (frame_words_of port frame)
