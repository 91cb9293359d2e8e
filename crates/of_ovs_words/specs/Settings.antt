-- WHAT WORDS SAY OF A MATCH (ovs-fields(7)): settings of fields, in the order of the words.
use Rattle.std.specs.Prelude.{ℕ, ◌+◌, ◌/◌, ◌%◌, ◌==◌, nat_le, nat_lt, min, not, codes, Bool, false, List, length, reverse, find, bit_and, Option, Some, None, Result, Ok, Err, if◌then◌else◌}
use Rattle.std.specs.{Option.option_map_or, Option.option_map, Str.bytes_eq}
use Rattle.of_layers.specs.{declared.field.Field.Field, Fields.number_of, Fields.ones_of}
use Rattle.of_layers.specs.declared.field.Field.TheVariants as fields
use Rattle.of_oxm.specs.declared.match_field.MatchField.{MatchField}
use Rattle.of_ovs_words.specs.declared.field_word.Form.TheVariants.{Number, Port, Mac, Ipv4, Ipv6, Tos, Vlan, Tci}
use Rattle.of_ovs_words.specs.declared.field_word.Target.TheVariants.{Exact, Protocol, NetworkSource, NetworkDestination, TransportSource, TransportDestination, SourceOrType, DestinationOrCode, IcmpType, IcmpCode}
use Rattle.of_ovs_words.specs.{declared.why.Why.Why, declared.field_word.Form.Form, declared.field_word.Target.Target, Numbers.number_in, Outcomes.◌>>=◌, Outcomes.value_or_why, Ports.port_in}
use Rattle.of_ovs_words.specs.{Ipv6.ipv6_in, Values.mac_in, Values.ipv4_in, Values.first_bits_mask}
use Rattle.of_ovs_words.specs.declared.why.Why.TheVariants as whys
use Rattle.of_lines.specs.Lines.{before, behind}

-- ---- which field

-- the last setting of a field
abbrev pub last_of : Field → List MatchField → Option MatchField
last_of f settings = find (λ e. number_of e.field == number_of f) (reverse settings)

-- the settings say that value of the field
abbrev pub says : Field → ℕ → List MatchField → Bool
says f value settings = option_map_or (λ e. e.value == value) (last_of f settings) false

-- the field of this ETH_TYPE, or the other
abbrev pub by_ethertype : List MatchField → ℕ → Field → Field → Option Field
by_ethertype settings ethertype f other = Some (if says fields.EthType ethertype settings then f else other)

abbrev pub if_tcp_or_udp : List MatchField → Field → Field → Option Field
if_tcp_or_udp settings f other = if says fields.IpProto 6 settings then Some f else if says fields.IpProto 17 settings then Some other else None

abbrev pub if_icmp : List MatchField → Field → Field → Option Field → Option Field
if_icmp settings f other rest = if says fields.IpProto 1 settings then Some f else if says fields.IpProto 58 settings then Some other else rest

-- the field that a word is for, after these settings
unfoldable pub field_for : Target → List MatchField → Option Field
field_for (Exact f) settings = Some f
field_for Protocol settings = by_ethertype settings 0x0806 fields.ArpOp fields.IpProto
field_for NetworkSource settings = by_ethertype settings 0x0806 fields.ArpSpa fields.Ipv4Src
field_for NetworkDestination settings = by_ethertype settings 0x0806 fields.ArpTpa fields.Ipv4Dst
field_for TransportSource settings = if_tcp_or_udp settings fields.TcpSrc fields.UdpSrc
field_for TransportDestination settings = if_tcp_or_udp settings fields.TcpDst fields.UdpDst
field_for SourceOrType settings = if_icmp settings fields.Icmpv4Type fields.Icmpv6Type (if_tcp_or_udp settings fields.TcpSrc fields.UdpSrc)
field_for DestinationOrCode settings = if_icmp settings fields.Icmpv4Code fields.Icmpv6Code (if_tcp_or_udp settings fields.TcpDst fields.UdpDst)
field_for IcmpType settings = by_ethertype settings 0x86dd fields.Icmpv6Type fields.Icmpv4Type
field_for IcmpCode settings = by_ethertype settings 0x86dd fields.Icmpv6Code fields.Icmpv4Code

-- ---- which value

-- a number that fits a field of 64 bits at most
abbrev pub number_for : Field → List ℕ → Option ℕ
number_for f word = number_in (min (ones_of f) 18446744073709551615 + 1) word

-- 0xffff is no tag; else the bit 0x1000 says that there is one (OpenFlow 1.3.5, 7.2.3.7)
abbrev pub vlan_of : Option ℕ → Option ℕ
vlan_of None = None
vlan_of (Some n) = if nat_lt n 4096 then Some (4096 + n) else if n == 65535 then Some 0 else None

abbrev pub vlan_in : List ℕ → Option ℕ
vlan_in word = vlan_of (number_in 65536 word)

-- the TOS of IPv4 without ECN, whose two bits are 0 (RFC 2474, 3)
abbrev pub dscp_of : Option ℕ → Option ℕ
dscp_of None = None
dscp_of (Some n) = if n % 4 == 0 then Some (n / 4) else None

unfoldable pub value_in : Form → Field → List ℕ → Result ℕ Why
value_in Number f word = value_or_why whys.Value (number_for f word)
value_in Port f word = port_in whys.PortName word
value_in Mac f word = value_or_why whys.Value (mac_in word)
value_in Ipv4 f word = value_or_why whys.Value (ipv4_in word)
value_in Ipv6 f word = value_or_why whys.Value (ipv6_in word)
value_in Tos f word = value_or_why whys.Value (dscp_of (number_in 256 word))
value_in Vlan f word = value_or_why whys.Value (vlan_in word)
value_in Tci f word = Err whys.Value

-- one that fits the field
abbrev pub fitting_in : Form → Field → List ℕ → Result ℕ Why
fitting_in form f word = value_in form f word >>= λ value. if nat_le value (ones_of f) then Ok value else Err whys.Value

-- ---- which mask

abbrev pub bits_in : Field → ℕ → List ℕ → Option ℕ
bits_in f most word = option_map (first_bits_mask (ones_of f)) (number_in (most + 1) word)

-- 10.0.0.0/8 or 10.0.0.0/255.0.0.0
abbrev pub ipv4_mask_in : Field → List ℕ → Option ℕ
ipv4_mask_in f word = if length (behind 46 word) == 0 then bits_in f 32 word else ipv4_in word

-- 2001:db8::/32, or a mask as an address
abbrev pub ipv6_mask_in : Field → List ℕ → Option ℕ
ipv6_mask_in f word =
    if not (length (behind 58 word) == 0) then ipv6_in word
    else if bytes_eq word (codes "128") then Some (ones_of f)
    else bits_in f 127 word

unfoldable pub mask_by_form : Form → Field → List ℕ → Option ℕ
mask_by_form Number f word = number_for f word
mask_by_form Mac f word = mac_in word
mask_by_form Ipv4 f word = ipv4_mask_in f word
mask_by_form Ipv6 f word = ipv6_mask_in f word
mask_by_form other f word = None

-- ---- settings

abbrev pub exact : Field → ℕ → MatchField
exact f value = record { field = f; value = value; mask = None }

-- under a mask of so many bits of the field; none, where it has no bit
abbrev pub setting_under : Field → ℕ → ℕ → Option MatchField
setting_under f value bits =
    if bits == 0 then None
    else if bits == ones_of f then Some (exact f value)
    else Some (record { field = f; value = bit_and value bits; mask = Some bits })

abbrev pub masked : Field → ℕ → ℕ → Option MatchField
masked f value mask = setting_under f value (bit_and mask (ones_of f))

abbrev pub with_mask_word : Form → Field → ℕ → List ℕ → Result (Option MatchField) Why
with_mask_word form f value word = if length word == 0 then Ok (Some (exact f value)) else value_or_why whys.Value (option_map (masked f value) (mask_by_form form f word))

-- a value, and after a slash a mask
unfoldable pub setting_in : Form → Field → List ℕ → Result (Option MatchField) Why
setting_in form f word = fitting_in form f (before 47 word) >>= λ value. with_mask_word form f value (behind 47 word)
