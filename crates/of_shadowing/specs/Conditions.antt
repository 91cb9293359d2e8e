-- WORDS THAT ARE CONDITIONS OF THEIR OWN: match fields of Open vSwitch that OpenFlow 1.3 or this switch does not have (ovs-fields(7)).
use Rattle.std.specs.Prelude.{ℕ, ◌==◌, ◌&&◌, ◌||◌, not, nat_le, Bool, true, is_some, List, [], ◌∷◌, length, codes, Option, Some, None, if◌then◌else◌}
use Rattle.std.specs.{List.list_any, Str.bytes_eq}
use Rattle.of_layers.specs.declared.field.Field.TheVariants.{EthType, Icmpv6Type, InPort, IpProto, TcpDst, TcpSrc, UdpDst, UdpSrc}
use Rattle.of_layers.specs.{declared.field.Field.Field, Fields.number_of}
use Rattle.of_layers.specs.declared.field.Prerequisite.TheVariants as needs
use Rattle.of_oxm.specs.{declared.match_field.MatchField.MatchField, Prerequisites.is_met}
use Rattle.of_text.specs.Lines.{behind, lines_of}
use Rattle.of_ovs_words.specs.{Words.word_name, Words.word_value, declared.why.Why.Why}
use Rattle.of_ovs_words.specs.declared.why.Why.TheVariants as whys
use Rattle.of_shadowing.specs.declared.conditions.Need.TheVariants.{Nothing, NoPort, NoSource, NoDestination, Ip, Tcp, Sctp, Mpls, Nsh, Neighbor, Solicitation, Advertisement}
use Rattle.of_shadowing.specs.{declared.conditions.Need.Need, declared.conditions.TheConstants.OF_ANY, declared.conditions.TheConstants.OF_ARP, declared.conditions.TheConstants.OF_NSH}

abbrev pub is_row_of : List (List ℕ) → List ℕ → Bool
is_row_of rows name = list_any (λ row. bytes_eq row name) rows

-- two names of one field
abbrev pub is_fragments : List ℕ → Bool
is_fragments name = bytes_eq name (codes "nw_frag") || bytes_eq name (codes "ip_frag")

abbrev pub is_nsh : List ℕ → Bool
is_nsh name = is_row_of (lines_of OF_NSH) name

-- fields of ARP, which Open vSwitch has for RARP, too
abbrev pub is_arp_field : List ℕ → Bool
is_arp_field name = is_row_of (lines_of OF_ARP) name

-- what has to be beside the field of a name, if it is one of these fields; those that need nothing are the rows of a table in the code
unfoldable pub need_of : List ℕ → Option Need
need_of name =
    if is_row_of (lines_of OF_ANY) name then Some Nothing
    else if bytes_eq name (codes "nw_ttl") || is_fragments name then Some Ip
    else if bytes_eq name (codes "tcp_flags") then Some Tcp
    else if bytes_eq name (codes "sctp_src") || bytes_eq name (codes "sctp_dst") then Some Sctp
    else if bytes_eq name (codes "mpls_label") || bytes_eq name (codes "mpls_tc") || bytes_eq name (codes "mpls_bos") || bytes_eq name (codes "mpls_ttl") then Some Mpls
    else if is_nsh name then Some Nsh
    else if bytes_eq name (codes "nd_target") then Some Neighbor
    else if bytes_eq name (codes "nd_sll") then Some Solicitation
    else if bytes_eq name (codes "nd_tll") then Some Advertisement
    else None

-- ports by their names, and masks that OpenFlow 1.3 does not have: a flow may say nothing else of their fields
abbrev pub begins_with_digit : List ℕ → Bool
begins_with_digit [] = true
begins_with_digit (b ∷ bs) = nat_le 48 b && nat_le b 57

abbrev pub is_masked : List ℕ → Bool
is_masked value = not (length (behind 47 value) == 0)

unfoldable pub need_of_value : List ℕ → List ℕ → Option Need
need_of_value name value =
    if bytes_eq name (codes "in_port") && not (begins_with_digit value) then Some NoPort
    else if bytes_eq name (codes "tp_src") && is_masked value then Some NoSource
    else if bytes_eq name (codes "tp_dst") && is_masked value then Some NoDestination
    else need_of name

abbrev pub need_of_word : List ℕ → Option Need
need_of_word word = need_of_value (word_name word) (word_value word)

-- THE WORD IS A CONDITION
abbrev pub is_condition : List ℕ → Bool
is_condition word = is_some (need_of_word word)

abbrev pub has_one_of : List MatchField → Field → ℕ → ℕ → Bool
has_one_of m f first second = list_any (λ e. number_of e.field == number_of f && (e.value == first || e.value == second)) m

abbrev pub matches_field : List MatchField → Field → Bool
matches_field m f = list_any (λ e. number_of e.field == number_of f) m

-- TCP or UDP, and no port in these fields
abbrev pub has_other_ports : List MatchField → Field → Field → Bool
has_other_ports m f other = has_one_of m IpProto 6 17 && not (matches_field m f || matches_field m other)

abbrev pub is_need_met : List MatchField → Need → Bool
is_need_met m Nothing = true
is_need_met m NoPort = not (matches_field m InPort)
is_need_met m NoSource = has_other_ports m TcpSrc UdpSrc
is_need_met m NoDestination = has_other_ports m TcpDst UdpDst
is_need_met m Ip = is_met m needs.Ip
is_need_met m Tcp = is_met m needs.Tcp
is_need_met m Sctp = has_one_of m IpProto 132 132
is_need_met m Mpls = has_one_of m EthType 0x8847 0x8848
is_need_met m Nsh = has_one_of m EthType 0x894f 0x894f
is_need_met m Neighbor = has_one_of m Icmpv6Type 135 136
is_need_met m Solicitation = has_one_of m Icmpv6Type 135 135
is_need_met m Advertisement = has_one_of m Icmpv6Type 136 136

abbrev pub why_unmet : Need → Why
why_unmet Nothing = whys.Unknown
why_unmet NoPort = whys.PortName
why_unmet NoSource = whys.Value
why_unmet NoDestination = whys.Value
why_unmet Ip = whys.NeedsIp
why_unmet Tcp = whys.NeedsTcp
why_unmet Sctp = whys.Unknown
why_unmet Mpls = whys.Unknown
why_unmet Nsh = whys.Unknown
why_unmet Neighbor = whys.NeedsIcmp6
why_unmet Solicitation = whys.NeedsIcmp6
why_unmet Advertisement = whys.NeedsIcmp6
