-- The match fields (OpenFlow 1.3.5, 7.2.3.7): their numbers, their bits, the bytes of a value,
-- whether they take a mask (7.2.3.5), whether a set-field action may set them (5.12), and their prerequisites (7.2.3.6).
use Rattle.std.specs.Prelude.{ℕ, ◌^◌, ◌-◌, Bool, true, false, ◌==◌, List, codes, Option, find}
use Rattle.of_layers.specs.declared.field.Field.TheVariants.{InPort, Metadata, EthDst, EthSrc, EthType, VlanVid, VlanPcp, IpDscp, IpEcn, IpProto, Ipv4Src, Ipv4Dst, TcpSrc, TcpDst, UdpSrc, UdpDst, Icmpv4Type, Icmpv4Code, ArpOp, ArpSpa, ArpTpa, ArpSha, ArpTha, Ipv6Src, Ipv6Dst, Ipv6Flabel, Icmpv6Type, Icmpv6Code}
use Rattle.of_layers.specs.declared.field.Prerequisite.TheVariants.{Nothing, Tag, Ip, Ipv4, Ipv6, Arp, Tcp, Udp, Icmpv4, Icmpv6}
use Rattle.of_layers.specs.{declared.field.Field.Field, declared.field.Prerequisite.Prerequisite, declared.field.FieldRow.FieldRow}
use Rattle.of_layers.specs.declared.field.TheConstants.Field as constants

-- words for the two columns of yes and no
abbrev pub takes_no_mask : Bool
takes_no_mask = false

abbrev pub takes_mask : Bool
takes_mask = true

abbrev pub fixed : Bool
fixed = false

abbrev pub sets : Bool
sets = true

-- a value is at most a one in each bit
abbrev pub field_row : ℕ → ℕ → ℕ → Bool → Bool → Prerequisite → FieldRow
field_row number bits bytes maskable settable need = record { number = number; bits = bits; bytes = bytes; ones = 2 ^ bits - 1; maskable = maskable; settable = settable; need = need }

-- the table: number, bits, bytes, mask, set-field, prerequisite
unfoldable pub row_of : Field → FieldRow
row_of InPort = field_row 0 32 4 takes_no_mask fixed Nothing
row_of Metadata = field_row 2 64 8 takes_mask fixed Nothing
row_of EthDst = field_row 3 48 6 takes_mask sets Nothing
row_of EthSrc = field_row 4 48 6 takes_mask sets Nothing
row_of EthType = field_row 5 16 2 takes_no_mask fixed Nothing
row_of VlanVid = field_row 6 13 2 takes_mask sets Nothing
row_of VlanPcp = field_row 7 3 1 takes_no_mask sets Tag
row_of IpDscp = field_row 8 6 1 takes_no_mask sets Ip
row_of IpEcn = field_row 9 2 1 takes_no_mask sets Ip
row_of IpProto = field_row 10 8 1 takes_no_mask fixed Ip
row_of Ipv4Src = field_row 11 32 4 takes_mask sets Ipv4
row_of Ipv4Dst = field_row 12 32 4 takes_mask sets Ipv4
row_of TcpSrc = field_row 13 16 2 takes_no_mask sets Tcp
row_of TcpDst = field_row 14 16 2 takes_no_mask sets Tcp
row_of UdpSrc = field_row 15 16 2 takes_no_mask sets Udp
row_of UdpDst = field_row 16 16 2 takes_no_mask sets Udp
row_of Icmpv4Type = field_row 19 8 1 takes_no_mask sets Icmpv4
row_of Icmpv4Code = field_row 20 8 1 takes_no_mask sets Icmpv4
row_of ArpOp = field_row 21 16 2 takes_no_mask sets Arp
row_of ArpSpa = field_row 22 32 4 takes_mask sets Arp
row_of ArpTpa = field_row 23 32 4 takes_mask sets Arp
row_of ArpSha = field_row 24 48 6 takes_mask sets Arp
row_of ArpTha = field_row 25 48 6 takes_mask sets Arp
row_of Ipv6Src = field_row 26 128 16 takes_mask sets Ipv6
row_of Ipv6Dst = field_row 27 128 16 takes_mask sets Ipv6
row_of Ipv6Flabel = field_row 28 20 4 takes_mask sets Ipv6
row_of Icmpv6Type = field_row 29 8 1 takes_no_mask sets Icmpv6
row_of Icmpv6Code = field_row 30 8 1 takes_no_mask sets Icmpv6

-- their names in lower case
unfoldable pub name_of : Field → List ℕ
name_of InPort = codes "in_port"
name_of Metadata = codes "metadata"
name_of EthDst = codes "eth_dst"
name_of EthSrc = codes "eth_src"
name_of EthType = codes "eth_type"
name_of VlanVid = codes "vlan_vid"
name_of VlanPcp = codes "vlan_pcp"
name_of IpDscp = codes "ip_dscp"
name_of IpEcn = codes "ip_ecn"
name_of IpProto = codes "ip_proto"
name_of Ipv4Src = codes "ipv4_src"
name_of Ipv4Dst = codes "ipv4_dst"
name_of TcpSrc = codes "tcp_src"
name_of TcpDst = codes "tcp_dst"
name_of UdpSrc = codes "udp_src"
name_of UdpDst = codes "udp_dst"
name_of Icmpv4Type = codes "icmpv4_type"
name_of Icmpv4Code = codes "icmpv4_code"
name_of ArpOp = codes "arp_op"
name_of ArpSpa = codes "arp_spa"
name_of ArpTpa = codes "arp_tpa"
name_of ArpSha = codes "arp_sha"
name_of ArpTha = codes "arp_tha"
name_of Ipv6Src = codes "ipv6_src"
name_of Ipv6Dst = codes "ipv6_dst"
name_of Ipv6Flabel = codes "ipv6_flabel"
name_of Icmpv6Type = codes "icmpv6_type"
name_of Icmpv6Code = codes "icmpv6_code"

abbrev pub number_of : Field → ℕ
number_of f = (row_of f).number

abbrev pub bit_count : Field → ℕ
bit_count f = (row_of f).bits

abbrev pub bytes_of : Field → ℕ
bytes_of f = (row_of f).bytes

abbrev pub ones_of : Field → ℕ
ones_of f = (row_of f).ones

abbrev pub is_maskable : Field → Bool
is_maskable f = (row_of f).maskable

abbrev pub is_settable : Field → Bool
is_settable f = (row_of f).settable

abbrev pub prerequisite_of : Field → Prerequisite
prerequisite_of f = (row_of f).need

-- each field once, in ascending order of number
abbrev pub all_fields : List Field
all_fields = constants.ALL

-- the field that has a number
unfoldable pub field_at : ℕ → Option Field
field_at n = find (λ f. number_of f == n) all_fields
