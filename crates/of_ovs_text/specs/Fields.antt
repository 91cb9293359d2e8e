-- MATCH FIELDS IN WORDS (ovs-fields(7)): a comma, a keyword, and a value as `ovs-ofctl` reads it.
use Rattle.std.specs.Prelude.{ℕ, ◌-◌, nat_le, Bool, true, false, not, ◌&&◌, List, [], ◌∷◌, ◌++◌, codes, decimal, find, Option, Some, None, if◌then◌else◌}
use Rattle.std.specs.List.{flat_map}
use Rattle.of_wire.specs.Parts.{keyword}
use Rattle.of_layers.specs.declared.field.Field.TheVariants.{InPort, EthType, VlanVid, VlanPcp, IpDscp, IpProto}
use Rattle.of_layers.specs.{declared.field.Field.Field, declared.field.Prerequisite.Prerequisite, declared.field.Prerequisite.TheVariants.Nothing}
use Rattle.of_oxm.specs.{Prerequisites.is_met, declared.match_field.MatchField.MatchField}
use Rattle.of_values.specs.{Numbers.hexadecimal, Values.value_words}
use Rattle.of_ovs_words.specs.FieldWords.{text_for}
use Rattle.of_ovs_text.specs.{declared.fields.Protocol.Protocol, declared.fields.TheConstants.PROTOCOLS}

-- ---- ETH_TYPE and IP_PROTO: a word says both, such as `tcp`

-- the first word that says what the match does
unfoldable pub protocol_in_words : List MatchField → Option Protocol
protocol_in_words m = find (λ row. is_met m row.network && is_met m row.transport) PROTOCOLS

abbrev pub ethertype_words : Option Protocol → ℕ → List ℕ
ethertype_words None type = codes ",dl_type=" ++ hexadecimal 4 type
ethertype_words (Some row) type = 44 ∷ keyword row.text

abbrev pub is_transport_said : Prerequisite → Bool
is_transport_said Nothing = false
is_transport_said other = true

abbrev pub says_transport : Option Protocol → Bool
says_transport None = false
says_transport (Some row) = is_transport_said row.transport

abbrev pub ip_protocol_words : Option Protocol → ℕ → List ℕ
ip_protocol_words protocol n = if says_transport protocol then [] else codes ",nw_proto=" ++ decimal n

-- ---- VLAN_VID: the number of a tag, or a value in which 0x1000 says that there is a tag

abbrev pub mask_behind_slash : Option ℕ → List ℕ
mask_behind_slash None = []
mask_behind_slash (Some mask) = 47 ∷ hexadecimal 4 mask

abbrev pub vid_words : ℕ → Option ℕ → List ℕ
vid_words n mask = codes ",vlan_vid=" ++ hexadecimal 4 n ++ mask_behind_slash mask

abbrev pub tag_words : ℕ → Option ℕ → List ℕ
tag_words n None = if nat_le 4096 n then codes ",dl_vlan=" ++ decimal (n - 4096) else vid_words n None
tag_words n (Some mask) = vid_words n (Some mask)

-- ---- other fields

-- a keyword with which the value is that of the field
abbrev pub keyword_of : Field → List ℕ
keyword_of VlanVid = codes "vlan_vid"
keyword_of VlanPcp = codes "vlan_pcp"
keyword_of IpDscp = codes "ip_dscp"
keyword_of other = text_for other

-- the value of a SET_FIELD
abbrev pub new_value_words : Field → ℕ → List ℕ
new_value_words VlanVid n = hexadecimal 4 n
new_value_words other n = value_words other n None

-- A FIELD of a match
unfoldable pub ovs_field_words : Option Protocol → Field → ℕ → Option ℕ → List ℕ
ovs_field_words protocol InPort n mask = codes ",in_port=" ++ decimal n
ovs_field_words protocol EthType n mask = ethertype_words protocol n
ovs_field_words protocol VlanVid n mask = tag_words n mask
ovs_field_words protocol IpProto n mask = ip_protocol_words protocol n
ovs_field_words protocol other n mask = 44 ∷ keyword_of other ++ 61 ∷ value_words other n mask

-- ---- a match

-- written before the others: the protocol, and VLAN_PCP, which also asks for a tag
abbrev pub comes_first : Field → Bool
comes_first EthType = true
comes_first VlanPcp = true
comes_first IpProto = true
comes_first other = false

abbrev pub is_chosen : Bool → Field → Bool
is_chosen first f = if first then comes_first f else not (comes_first f)

abbrev pub chosen_field_words : Bool → Option Protocol → MatchField → List ℕ
chosen_field_words first protocol e = if is_chosen first e.field then ovs_field_words protocol e.field e.value e.mask else []

-- A MATCH, behind the priority
unfoldable pub match_in_words : List MatchField → List ℕ
match_in_words m = flat_map (chosen_field_words true (protocol_in_words m)) m ++ flat_map (chosen_field_words false (protocol_in_words m)) m
