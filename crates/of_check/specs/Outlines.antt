-- WHAT OF AN ENTRY IS COMPARED FIRST: its priority, and a few fields of its match, each as its value and the bits that are looked at.
use Rattle.std.specs.Prelude.{◌==◌, ◌&&◌, Bool, List, Option, Some, None, bit_and, map}
use Rattle.of_layers.specs.declared.field.Field.TheVariants as field
use Rattle.of_oxm.specs.{declared.match_field.MatchField.MatchField, Masks.first_at, Relations.bits_looked_at}
use Rattle.of_table.specs.Table.{FlowEntry}
use Rattle.of_check.specs.{declared.outline.Outline.Outline, declared.outline.Part.Part}

-- no bits of a field that the match does not have
abbrev pub part_of : Option MatchField → Part
part_of None = record { value = 0; bits = 0 }
part_of (Some e) = record { value = e.value; bits = bits_looked_at e }

abbrev pub outline_of : FlowEntry → Outline
outline_of e =
    let m = e.flow.fields in
    record {
      priority = e.flow.priority;
      ipv4_dst = part_of (first_at m field.Ipv4Dst);
      ipv4_src = part_of (first_at m field.Ipv4Src);
      tcp_dst = part_of (first_at m field.TcpDst);
      udp_dst = part_of (first_at m field.UdpDst);
      ip_proto = part_of (first_at m field.IpProto);
      eth_dst = part_of (first_at m field.EthDst);
      ipv6_dst = part_of (first_at m field.Ipv6Dst);
      vlan_vid = part_of (first_at m field.VlanVid);
      in_port = part_of (first_at m field.InPort);
    }

abbrev pub outlines_of : List FlowEntry → List Outline
outlines_of flows = map outline_of flows

-- the values agree in the bits that both look at
abbrev pub parts_agree : Part → Part → Bool
parts_agree a b = bit_and b.value a.bits == bit_and a.value b.bits

abbrev pub outlines_agree : Outline → Outline → Bool
outlines_agree a b =
    parts_agree a.ipv4_dst b.ipv4_dst && parts_agree a.ipv4_src b.ipv4_src && parts_agree a.tcp_dst b.tcp_dst && parts_agree a.udp_dst b.udp_dst
    && parts_agree a.ip_proto b.ip_proto && parts_agree a.eth_dst b.eth_dst && parts_agree a.ipv6_dst b.ipv6_dst && parts_agree a.vlan_vid b.vlan_vid
    && parts_agree a.in_port b.in_port
