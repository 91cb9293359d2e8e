-- FRAMES IN WORDS: the frame that has the fields which words say. Fields of its headers of which no word says anything are 0; TTL and hop limit are 64 then.
use Rattle.std.specs.Prelude.{◌≡◌, ◌⊎◌, ℕ, ◌<◌, ◌^◌, ◌==◌, nat_le, not, Bool, true, false, List, [], ◌∷◌, length, bit_and, Option, Some, None, Result, Ok, Err, if◌then◌else◌}
use Rattle.std.specs.List.{list_any}
use Rattle.of_layers.specs.declared.field.Field.{Field}
use Rattle.of_layers.specs.declared.field.Field.TheVariants.{InPort, EthType, VlanVid, IpProto}
use Rattle.of_layers.specs.{declared.field.Prerequisite.Prerequisite, Fields.number_of, Fields.ones_of, Fields.prerequisite_of, Reading.layers_of}
use Rattle.of_layers.specs.declared.field.Prerequisite.TheVariants as needs
use Rattle.of_headers.specs.FieldMap.{field_map}
use Rattle.of_rewrite.specs.{Frames.IsFrame, Frames.frame_ttl, TimeToLive.ttl_of}
use Rattle.of_frames.specs.{declared.shape.Shape.Shape, declared.shape.Tagging.Tagging, declared.shape.Tagging.TheVariants.Untagged, declared.shape.Tagging.TheVariants.Tagged, Given.or_zero}
use Rattle.of_frames.specs.Packets.{frame_given}
use Rattle.of_frames.specs.declared.shape.Shape.TheVariants as shapes
use Rattle.of_oxm.specs.{declared.match_field.MatchField.MatchField, Prerequisites.is_met, Relations.first_difference, Relations.matches_map}
use Rattle.of_ovs_words.specs.{declared.why.Why.Why as WordWhy, FieldWords.text_for, Outcomes.◌>>=◌, Outcomes.numbered, Words.word_value, Words.words_from}
use Rattle.of_ovs_words.specs.declared.why.Why.TheVariants as words
use Rattle.of_frame_words.specs.{declared.why.Why.Why, declared.why.Why.TheVariants.Word, declared.why.Why.TheVariants.Impossible}
use Rattle.of_frame_words.specs.Said.{WordRefusal, is_ttl_word, refuse, with_setting_words}

-- ---- the fields that settings say

-- a later setting counts in place of an earlier one
abbrev pub with_setting : MatchField → (Field → Option ℕ) → Field → Option ℕ
with_setting e map f = if number_of f == number_of e.field then Some (bit_and e.value (ones_of e.field)) else map f

abbrev pub set_by : List MatchField → (Field → Option ℕ) → Field → Option ℕ
set_by [] map = map
set_by (e ∷ es) map = set_by es (with_setting e map)

-- before any word
abbrev pub at_port : ℕ → Field → Option ℕ
at_port port InPort = Some port
at_port port other = None

-- ---- the headers that they ask for

abbrev pub shape_of_ipv4_protocol : ℕ → Shape
shape_of_ipv4_protocol protocol = if protocol == 6 then shapes.Ipv4Tcp else if protocol == 17 then shapes.Ipv4Udp else if protocol == 1 then shapes.Ipv4Icmp else shapes.Ipv4

abbrev pub shape_of_ipv6_protocol : ℕ → Shape
shape_of_ipv6_protocol protocol = if protocol == 6 then shapes.Ipv6Tcp else if protocol == 17 then shapes.Ipv6Udp else if protocol == 58 then shapes.Ipv6Icmp else shapes.Ipv6

abbrev pub shape_by : ℕ → ℕ → Shape
shape_by type protocol =
    if type == 0x0806 then shapes.Arp
    else if type == 0x0800 then shape_of_ipv4_protocol protocol
    else if type == 0x86dd then shape_of_ipv6_protocol protocol
    else shapes.Bare

-- OFPVID_PRESENT (OpenFlow 1.3.5, 7.2.3.7)
abbrev pub tagging_by : ℕ → Tagging
tagging_by vid = if nat_le 4096 vid then Tagged else Untagged

-- ---- the frame

pub record ReceivedFrame : Type 0 where
  pub port : ℕ
  pub frame : List ℕ

abbrev pub received_by : (Field → ℕ) → ReceivedFrame
received_by v = record { port = v InPort; frame = frame_given (shape_by (v EthType) (v IpProto)) (tagging_by (v VlanVid)) v }

abbrev pub received_frame : ℕ → List MatchField → ReceivedFrame
received_frame port settings = received_by (or_zero (set_by settings (at_port port)))

abbrev pub map_of : ReceivedFrame → Field → Option ℕ
map_of r = field_map (layers_of r.frame) r.port 0

-- ---- settings that the frame does not have

-- the prerequisite of its field is missing (OpenFlow 1.3.5, 7.2.3.8)
abbrev pub word_why_missing : Prerequisite → WordWhy
word_why_missing needs.Nothing = words.Unknown
word_why_missing needs.Tag = words.NeedsTag
word_why_missing needs.Ip = words.NeedsIp
word_why_missing needs.Ipv4 = words.NeedsIpv4
word_why_missing needs.Ipv6 = words.NeedsIpv6
word_why_missing needs.Arp = words.NeedsArp
word_why_missing needs.Tcp = words.NeedsTcp
word_why_missing needs.Udp = words.NeedsUdp
word_why_missing needs.Icmpv4 = words.NeedsIcmp
word_why_missing needs.Icmpv6 = words.NeedsIcmp6

abbrev pub why_missed : List MatchField → MatchField → Why
why_missed settings e = if is_met settings (prerequisite_of e.field) then Impossible else Word (word_why_missing (prerequisite_of e.field))

abbrev pub unless_missed : List MatchField → ReceivedFrame → Option MatchField → Result ReceivedFrame WordRefusal
unless_missed settings r None = Ok r
unless_missed settings r (Some e) = refuse (text_for e.field) (why_missed settings e)

abbrev pub checked : List MatchField → ReceivedFrame → Result ReceivedFrame WordRefusal
checked settings r = unless_missed settings r (first_difference settings (map_of r))

-- ---- the TTL or hop limit (RFC 791, 3.1; RFC 8200, 3)

-- another one, if the frame has one
abbrev pub with_ttl : List ℕ → Option ℕ → ℕ → ReceivedFrame → Result ReceivedFrame WordRefusal
with_ttl word None n r = refuse word (Word words.NeedsIp)
with_ttl word (Some old) n r = Ok (record { port = r.port; frame = frame_ttl n r.frame })

abbrev pub with_ttl_said : List ℕ → Result ℕ WordWhy → ReceivedFrame → Result ReceivedFrame WordRefusal
with_ttl_said word (Err why) r = refuse word (Word why)
with_ttl_said word (Ok n) r = with_ttl word (ttl_of (layers_of r.frame)) n r

-- that of a word
unfoldable pub with_ttl_word : List ℕ → ReceivedFrame → Result ReceivedFrame WordRefusal
with_ttl_word word r = if is_ttl_word word then with_ttl_said word (numbered 256 (word_value word)) r else Ok r

-- those of all words, one after the other
abbrev pub with_ttl_words : List (List ℕ) → ReceivedFrame → Result ReceivedFrame WordRefusal
with_ttl_words [] r = Ok r
with_ttl_words (w ∷ ws) r = with_ttl_word w r >>= with_ttl_words ws

-- THE FRAME THAT WORDS SAY, received at the port that they say, or else at this one. Refused is the first word that has no meaning, then the first setting that the frame does not have, and then a TTL.
unfoldable pub frame_in_words : ℕ → List ℕ → Result ReceivedFrame WordRefusal
frame_in_words port text =
    with_setting_words false [] (words_from 0 text) >>= λ settings. checked settings (received_frame port settings) >>= with_ttl_words (words_from 0 text)

-- ---- what such a frame is

-- bytes that are a frame, so few that their bits can be counted in 64 bits
abbrev pub IsReadable : List ℕ → Type 0
IsReadable frame = IsFrame frame × (length frame < 2 ^ 61)

-- no setting is of this field
abbrev pub is_unsaid : List MatchField → Field → Bool
is_unsaid settings f = not (list_any (λ e. number_of f == number_of e.field) settings)

-- absent, or 0
abbrev pub IsDefault : Option ℕ → Type 0
IsDefault o = (o ≡ None) ⊎ (o ≡ Some 0)

-- it has what each setting says, and 0 in each other field; without a setting of the port it is received at the one that is given
pub record Has (port : ℕ) (settings : List MatchField) (r : ReceivedFrame) : Type 0 where
  pub frame : IsFrame r.frame
  pub said : matches_map settings (map_of r) ≡ true
  pub others : (f : Field) → is_unsaid settings f ≡ true → (number_of f == number_of InPort) ≡ false → IsDefault (map_of r f)
  pub port_is : is_unsaid settings InPort ≡ true → r.port ≡ port
