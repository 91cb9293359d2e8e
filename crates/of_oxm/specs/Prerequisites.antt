-- The prerequisites of a field, elsewhere in its match (OpenFlow 1.3.5, 7.2.3.6).
use Rattle.std.specs.Prelude.{ℕ, ◌==◌, Bool, true, not, ◌&&◌, ◌||◌, List}
use Rattle.std.specs.List.{list_any, list_all}
use Rattle.of_layers.specs.declared.field.Prerequisite.TheVariants.{Nothing, Tag, Ip, Ipv4, Ipv6, Arp, Tcp, Udp, Icmpv4, Icmpv6}
use Rattle.of_layers.specs.{declared.field.Field.Field, declared.field.Prerequisite.Prerequisite, Fields.number_of, Fields.prerequisite_of}
use Rattle.of_layers.specs.declared.field.Field.TheVariants as fields
use Rattle.of_oxm.specs.declared.match_field.MatchField.{MatchField}

-- the match asks for this value of the field
abbrev pub has : List MatchField → Field → ℕ → Bool
has m f v = list_any (λ e. number_of e.field == number_of f && e.value == v) m

abbrev pub is_met : List MatchField → Prerequisite → Bool
is_met m Nothing = true
is_met m Tag = list_any (λ e. number_of e.field == number_of fields.VlanVid && not (e.value == 0)) m
is_met m Ip = has m fields.EthType 0x0800 || has m fields.EthType 0x86dd
is_met m Ipv4 = has m fields.EthType 0x0800
is_met m Ipv6 = has m fields.EthType 0x86dd
is_met m Arp = has m fields.EthType 0x0806
is_met m Tcp = has m fields.IpProto 6
is_met m Udp = has m fields.IpProto 17
is_met m Icmpv4 = has m fields.EthType 0x0800 && has m fields.IpProto 1
is_met m Icmpv6 = has m fields.EthType 0x86dd && has m fields.IpProto 58

-- the prerequisites of each field are in the match
unfoldable pub prerequisites_met : List MatchField → Bool
prerequisites_met m = list_all (λ e. is_met m (prerequisite_of e.field)) m
