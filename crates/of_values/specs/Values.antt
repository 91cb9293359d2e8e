-- VALUES OF MATCH FIELDS IN WORDS, as an operator writes them (OpenFlow 1.3.5, 7.2.3.7): each field has a form.
use Rattle.std.specs.Prelude.{ℕ, ◌-◌, ◌==◌, ◌&&◌, nat_le, List, ◌∷◌, ◌++◌, codes, decimal, Option, Some, None, if◌then◌else◌}
use Rattle.of_layers.specs.declared.field.Field.TheVariants.{InPort, Metadata, EthDst, EthSrc, EthType, VlanVid, VlanPcp, IpDscp, IpEcn, IpProto, Ipv4Src, Ipv4Dst, TcpSrc, TcpDst, UdpSrc, UdpDst, Icmpv4Type, Icmpv4Code, ArpOp, ArpSpa, ArpTpa, ArpSha, ArpTha, Ipv6Src, Ipv6Dst, Ipv6Flabel, Icmpv6Type, Icmpv6Code}
use Rattle.of_layers.specs.declared.field.Field.{Field}
use Rattle.of_values.specs.declared.form.Form.TheVariants.{Number, Hexadecimal, Port, Vlan, Ethernet, Ipv4, Ipv6}
use Rattle.of_values.specs.{declared.form.Form.Form, Ipv6.ipv6_address, Masks.ipv4_mask, Masks.ipv6_mask}
use Rattle.of_values.specs.Numbers as words

-- THE FORM OF EACH FIELD
unfoldable pub form_of : Field → Form
form_of InPort = Port
form_of Metadata = Hexadecimal 1
form_of EthDst = Ethernet
form_of EthSrc = Ethernet
form_of EthType = Hexadecimal 4
form_of VlanVid = Vlan
form_of VlanPcp = Number
form_of IpDscp = Number
form_of IpEcn = Number
form_of IpProto = Number
form_of Ipv4Src = Ipv4
form_of Ipv4Dst = Ipv4
form_of TcpSrc = Number
form_of TcpDst = Number
form_of UdpSrc = Number
form_of UdpDst = Number
form_of Icmpv4Type = Number
form_of Icmpv4Code = Number
form_of ArpOp = Number
form_of ArpSpa = Ipv4
form_of ArpTpa = Ipv4
form_of ArpSha = Ethernet
form_of ArpTha = Ethernet
form_of Ipv6Src = Ipv6
form_of Ipv6Dst = Ipv6
form_of Ipv6Flabel = Hexadecimal 5
form_of Icmpv6Type = Number
form_of Icmpv6Code = Number

-- A VLAN_VID: `none` without a tag, or the number of a tag, whose bit OFPVID_PRESENT is 0x1000
unfoldable pub vlan_words : ℕ → List ℕ
vlan_words n = if n == 0 then codes "none" else if nat_le 4096 n then decimal (n - 4096) else words.hexadecimal 4 n

-- A NUMBER in its form
unfoldable pub in_form : Form → ℕ → List ℕ
in_form Number n = decimal n
in_form (Hexadecimal least) n = words.hexadecimal least n
in_form Port n = words.port_in_words n
in_form Vlan n = vlan_words n
in_form Ethernet n = words.ethernet n
in_form Ipv4 n = words.ipv4_address n
in_form Ipv6 n = ipv6_address n

-- A MASK: that of a prefix of addresses is its length
unfoldable pub mask_in_form : Form → ℕ → List ℕ
mask_in_form Ipv4 mask = ipv4_mask mask
mask_in_form Ipv6 mask = ipv6_mask mask
mask_in_form form mask = in_form form mask

-- OFPVID_PRESENT under its own mask is any tag
unfoldable pub masked_vlan : ℕ → ℕ → List ℕ
masked_vlan value mask = if (value == 4096) && (mask == 4096) then codes "present" else words.hexadecimal 4 value ++ 47 ∷ words.hexadecimal 4 mask

unfoldable pub masked_value_words : Form → ℕ → ℕ → List ℕ
masked_value_words Vlan value mask = masked_vlan value mask
masked_value_words form value mask = in_form form value ++ 47 ∷ mask_in_form form mask

-- A VALUE OF A FIELD, and a mask behind a slash
unfoldable pub value_words : Field → ℕ → Option ℕ → List ℕ
value_words f value None = in_form (form_of f) value
value_words f value (Some mask) = masked_value_words (form_of f) value mask
