-- A FRAME AS WORDS: the port, the protocol, the other fields that are not 0, and a TTL that is not 64; if these words are read as that frame.
use Rattle.std.specs.Prelude.{◌≡◌, ℕ, ◌==◌, ◌&&◌, nat_le, nat_lt, Bool, false, List, [], ◌∷◌, ◌++◌, length, codes, decimal, Option, Some, None, Result, Ok, Err, if◌then◌else◌}
use Rattle.std.specs.{List.flat_map, Str.bytes_eq}
use Rattle.of_layers.specs.{declared.field.Field.Field, declared.field.Field.TheVariants.EthType, declared.field.Field.TheVariants.IpDscp, declared.field.Field.TheVariants.IpProto}
use Rattle.of_layers.specs.Reading.{layers_of}
use Rattle.of_headers.specs.FieldMap.{field_map}
use Rattle.of_rewrite.specs.TimeToLive.{ttl_of}
use Rattle.of_frames.specs.{declared.shape.Shape.Shape, Given.or_zero}
use Rattle.of_frames.specs.declared.shape.Shape.TheVariants as shapes
use Rattle.of_actions.specs.PortNumbers.{is_number}
use Rattle.of_values.specs.Values.{value_words}
use Rattle.of_ovs_words.specs.FieldWords.{text_for}
use Rattle.of_frame_words.specs.{declared.printed.TheConstants.FURTHER_FIELDS, Frames.ReceivedFrame, Frames.frame_in_words, Frames.shape_by, Said.WordRefusal}

-- ---- one field: `,nw_src=10.0.0.1`; nothing if it is 0, as fields are of which no word says anything

-- the word for IP_DSCP that takes its number, and not the whole byte
abbrev pub printed_word : Field → List ℕ
printed_word IpDscp = codes "ip_dscp"
printed_word f = text_for f

unfoldable pub field_said : Field → ℕ → List ℕ
field_said f n = if n == 0 then [] else 44 ∷ printed_word f ++ 61 ∷ value_words f n None

-- ---- the protocol: `,tcp`, or the type and the protocol

abbrev pub shape_said : Shape → ℕ → ℕ → List ℕ
shape_said shapes.Bare type protocol = field_said EthType type
shape_said shapes.Arp type protocol = codes ",arp"
shape_said shapes.Ipv4 type protocol = codes ",ip" ++ field_said IpProto protocol
shape_said shapes.Ipv4Tcp type protocol = codes ",tcp"
shape_said shapes.Ipv4Udp type protocol = codes ",udp"
shape_said shapes.Ipv4Icmp type protocol = codes ",icmp"
shape_said shapes.Ipv6 type protocol = codes ",ipv6" ++ field_said IpProto protocol
shape_said shapes.Ipv6Tcp type protocol = codes ",tcp6"
shape_said shapes.Ipv6Udp type protocol = codes ",udp6"
shape_said shapes.Ipv6Icmp type protocol = codes ",icmp6"

abbrev pub protocol_said : (Field → ℕ) → List ℕ
protocol_said v = shape_said (shape_by (v EthType) (v IpProto)) (v EthType) (v IpProto)

-- ---- the TTL or hop limit: `,nw_ttl=5`; nothing if it is 64, as it is if no word says it

unfoldable pub ttl_said : Option ℕ → List ℕ
ttl_said None = []
ttl_said (Some n) = if n == 64 then [] else codes ",nw_ttl=" ++ decimal n

-- ---- the words

unfoldable pub words_with : ℕ → (Field → ℕ) → Option ℕ → List ℕ
words_with port v ttl = codes "in_port=" ++ decimal port ++ protocol_said v ++ flat_map (λ f. field_said f (v f)) FURTHER_FIELDS ++ ttl_said ttl

abbrev pub words_for : ℕ → List ℕ → List ℕ
words_for port frame = words_with port (or_zero (field_map (layers_of frame) port 0)) (ttl_of (layers_of frame))

-- ---- whether they are read as the frame

abbrev pub is_read_as : ℕ → List ℕ → Result ReceivedFrame WordRefusal → Bool
is_read_as port frame (Ok r) = (r.port == port) && bytes_eq r.frame frame
is_read_as port frame (Err e) = false

abbrev pub some_if : Bool → List ℕ → Option (List ℕ)
some_if b words = if b then Some words else None

-- THE WORDS OF A FRAME that is received at a port of the switch, if there are such: they say all of it
unfoldable pub frame_words_of : ℕ → List ℕ → Option (List ℕ)
frame_words_of port frame =
    if is_number port && nat_le 14 (length frame) && nat_lt (length frame) 65536 then some_if (is_read_as port frame (frame_in_words 0 (words_for port frame))) (words_for port frame) else None

-- such words are read as the frame
abbrev pub AreRead : ℕ → List ℕ → Option (List ℕ) → Type 0
AreRead port frame None = Unit {0}
AreRead port frame (Some words) = frame_in_words 0 words ≡ Ok (record { port = port; frame = frame })
