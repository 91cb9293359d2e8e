use Rattle.std.proofs.lemmas.Result.{on_ok_weaker}
use Rattle.of_layers.specs.Layers.{arp, cells_in}
use Rattle.of_frames.{specs.Given.number, specs.Packets.arp_given, proofs.AddingLemmas.arp_packet, proofs.AddingLemmas.no_bits}
use Rattle.of_frames.proofs.packets.push_body.Goals as goal

pub returns-in-Bare : goal.returns-in-Bare
returns-in-Bare c = rw c.in-Bare.is (no_bits c.args.out.now.items)

pub returns-in-Arp : goal.returns-in-Arp
returns-in-Arp c = rw c.in-Arp.is (on_ok_weaker c.push_arp.result (λ p. arp_packet (cells_in arp (arp_given (number c.args.numbers.now))) p) c.push_arp.ensures)

pub returns-in-Ipv4 : goal.returns-in-Ipv4
returns-in-Ipv4 c = rw c.in-Ipv4.is c.push_ipv4.ensures

pub returns-in-Ipv4Tcp : goal.returns-in-Ipv4Tcp
returns-in-Ipv4Tcp c = rw c.in-Ipv4Tcp.is c.push_ipv4-in-Ipv4Tcp.ensures

pub returns-in-Ipv4Udp : goal.returns-in-Ipv4Udp
returns-in-Ipv4Udp c = rw c.in-Ipv4Udp.is c.push_ipv4-in-Ipv4Udp.ensures

pub returns-in-Ipv4Icmp : goal.returns-in-Ipv4Icmp
returns-in-Ipv4Icmp c = rw c.in-Ipv4Icmp.is c.push_ipv4-in-Ipv4Icmp.ensures

pub returns-in-Ipv6 : goal.returns-in-Ipv6
returns-in-Ipv6 c = rw c.in-Ipv6.is c.push_ipv6.ensures

pub returns-in-Ipv6Tcp : goal.returns-in-Ipv6Tcp
returns-in-Ipv6Tcp c = rw c.in-Ipv6Tcp.is c.push_ipv6-in-Ipv6Tcp.ensures

pub returns-in-Ipv6Udp : goal.returns-in-Ipv6Udp
returns-in-Ipv6Udp c = rw c.in-Ipv6Udp.is c.push_ipv6-in-Ipv6Udp.ensures

pub returns-in-Ipv6Icmp : goal.returns-in-Ipv6Icmp
returns-in-Ipv6Icmp c = rw c.in-Ipv6Icmp.is c.push_ipv6-in-Ipv6Icmp.ensures
