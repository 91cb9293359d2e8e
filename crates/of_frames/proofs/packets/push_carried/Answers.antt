use Rattle.std.proofs.lemmas.Result.{on_ok_weaker}
use Rattle.of_layers.specs.Fields.{row_of}
use Rattle.of_frames.proofs.AddingLemmas.{icmp_header, no_bits}
use Rattle.of_frames.proofs.packets.push_carried.Goals as goal

pub returns-in-Nothing : goal.returns-in-Nothing
returns-in-Nothing c = rw c.in-Nothing.is (no_bits c.args.out.now.items)

pub returns-in-Icmpv4 : goal.returns-in-Icmpv4
unfolding row_of
returns-in-Icmpv4 c = rw c.in-Icmpv4.is (on_ok_weaker c.push_icmp.result (λ p. icmp_header c.args.numbers.now.icmpv4_type c.args.numbers.now.icmpv4_code c.args.checksum p) c.push_icmp.ensures)

pub returns-in-Icmpv6 : goal.returns-in-Icmpv6
unfolding row_of
returns-in-Icmpv6 c = rw c.in-Icmpv6.is (on_ok_weaker c.push_icmp-in-Icmpv6.result (λ p. icmp_header c.args.numbers.now.icmpv6_type c.args.numbers.now.icmpv6_code c.args.checksum p) c.push_icmp-in-Icmpv6.ensures)
