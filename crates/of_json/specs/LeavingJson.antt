-- WHAT LEAVES A SWITCH, AS JSON (RFC 8259): members and objects.
use Rattle.std.specs.Prelude.{ℕ, List, [], ◌∷◌, ◌++◌, codes, decimal, Option, Some, None}
use Rattle.hex.specs.Hex.{encode_lower}
use Rattle.of_machine.specs.{declared.data.Item.Item, declared.data.Item.TheVariants.PacketIn, declared.data.Item.TheVariants.Sent, declared.data.ToController.ToController}
use Rattle.of_json.specs.Parts.{key, listed, number_member, quoted, text_member}
use Rattle.of_json.specs.LeavingWords.{reason_said}
use Rattle.of_values.specs.Numbers.{hexadecimal}

-- the first member of an object: the number of a port, or the controller
unfoldable pub port_place : List ℕ → ℕ → List ℕ
port_place name port = key name ++ decimal port

unfoldable pub controller_place : List ℕ → List ℕ
controller_place name = key name ++ quoted (codes "controller")

-- ---- what leaves

unfoldable pub max_len_member : Option ℕ → List ℕ
max_len_member None = []
max_len_member (Some n) = number_member (codes "max_len") n

unfoldable pub packet_in_members : ToController → List ℕ
packet_in_members p =
    controller_place (codes "port") ++ text_member (codes "reason") (reason_said p.reason) ++ number_member (codes "table") p.table
    ++ text_member (codes "cookie") (hexadecimal 1 p.cookie) ++ text_member (codes "metadata") (hexadecimal 1 p.metadata) ++ max_len_member p.max_len
    ++ text_member (codes "frame") (encode_lower p.frame)

unfoldable pub leaving_members : Item → List ℕ
leaving_members (Sent port frame) = port_place (codes "port") port ++ text_member (codes "frame") (encode_lower frame)
leaving_members (PacketIn p) = packet_in_members p

unfoldable pub item_object : Item → List ℕ
item_object item = 123 ∷ leaving_members item ++ 125 ∷ []

unfoldable pub items_member : List ℕ → List Item → List ℕ
items_member name items = 44 ∷ key name ++ 91 ∷ listed item_object items ++ 93 ∷ []
