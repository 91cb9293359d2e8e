-- WHAT LEAVES A SWITCH AND WHAT CHANGED IN IT, IN WORDS: the lines of the items, and below each frame that is not the one that came in, what changed in it.
use Rattle.std.specs.Prelude.{ℕ, ◌+◌, Bool, false, List, [], ◌∷◌, ◌++◌, take, codes, decimal, Option, Some, None, if◌then◌else◌}
use Rattle.std.specs.Str.{bytes_eq}
use Rattle.of_layers.specs.Fields.{name_of}
use Rattle.of_values.specs.Values.{value_words}
use Rattle.of_machine.specs.{declared.data.Item.Item, declared.data.Item.TheVariants.PacketIn, declared.data.Item.TheVariants.Sent}
use Rattle.of_json.specs.{LeavingWords.side_words, Parts.listed, declared.altered.Change.Change, declared.altered.Property.Property}
use Rattle.of_json.specs.{declared.altered.Property.TheVariants.InField, declared.altered.Property.TheVariants.TimeToLive, Changes.changes}

-- ---- one change: ` ipv4_dst 10.0.0.1 -> 10.0.0.2`

abbrev pub property_name : Property → List ℕ
property_name (InField f) = name_of f
property_name TimeToLive = codes "nw_ttl"

abbrev pub property_value : Property → ℕ → List ℕ
property_value (InField f) n = value_words f n None
property_value TimeToLive n = decimal n

abbrev pub value_there : Property → Option ℕ → List ℕ
value_there p None = codes "absent"
value_there p (Some n) = property_value p n

unfoldable pub value_change_words : Change → List ℕ
value_change_words c = 32 ∷ property_name c.property ++ 32 ∷ value_there c.property c.before ++ codes " -> " ++ value_there c.property c.after

-- ---- the line of a frame, behind the name of the switch: `changed: ipv4_dst 10.0.0.1 -> 10.0.0.2, nw_ttl 64 -> 63`

unfoldable pub changed_values_words : List ℕ → List Change → List ℕ
changed_values_words who cs = who ++ codes "changed:" ++ listed value_change_words cs ++ 10 ∷ []

abbrev pub changed_line : List ℕ → List Change → List ℕ
changed_line who [] = []
changed_line who (c ∷ cs) = changed_values_words who (c ∷ cs)

-- ---- what leaves: items that send one frame one after the other have one line, and below it is what changed in that frame

abbrev pub item_frame : Item → List ℕ
item_frame (Sent port frame) = frame
item_frame (PacketIn p) = p.frame

abbrev pub sends_frame : List ℕ → Item → Bool
sends_frame frame (Sent port other) = bytes_eq other frame
sends_frame frame (PacketIn p) = false

-- how many of the next items send it
abbrev pub count_next : List ℕ → List Item → ℕ
count_next frame [] = 0
count_next frame (item ∷ items) = if sends_frame frame item then count_next frame items + 1 else 0

-- with the item before, if there is one, which sent the same frame
abbrev pub is_said_before : Option Item → Item → Bool
is_said_before None item = false
is_said_before (Some before) (Sent port frame) = sends_frame frame before
is_said_before (Some before) (PacketIn p) = false

-- the first item, and those behind it that send the same frame
abbrev pub first_line : List Item → List Item
first_line [] = []
first_line (Sent port frame ∷ items) = take (count_next frame (Sent port frame ∷ items)) (Sent port frame ∷ items)
first_line (PacketIn p ∷ items) = PacketIn p ∷ []

unfoldable pub item_words : List ℕ → List ℕ → Item → List Item → List ℕ
item_words who came item items = side_words who (first_line items) ++ changed_line who (changes came (item_frame item))

abbrev pub next_words : List ℕ → List ℕ → Option Item → Item → List Item → List ℕ
next_words who came before item items = if is_said_before before item then [] else item_words who came item items

abbrev pub changed_sides : List ℕ → List ℕ → Option Item → List Item → List ℕ
changed_sides who came before [] = []
changed_sides who came before (item ∷ items) = next_words who came before item (item ∷ items) ++ changed_sides who came (Some item) items

-- WHAT LEAVES for the frame that came in, behind the name of the switch
abbrev pub changed_side_words : List ℕ → List ℕ → List Item → List ℕ
changed_side_words who came [] = side_words who []
changed_side_words who came (item ∷ items) = changed_sides who came None (item ∷ items)
