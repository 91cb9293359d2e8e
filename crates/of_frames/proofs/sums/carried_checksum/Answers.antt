use Rattle.std.proofs.Common.{arith}
use Rattle.of_frames.proofs.SumLemmas.{tcp_checksum_is, udp_checksum_is, icmpv4_checksum_is, icmpv6_checksum_is}
use Rattle.of_frames.proofs.sums.carried_checksum.Goals as goal

pub returns-in-Tcp : goal.returns-in-Tcp
returns-in-Tcp c = rw c.in-Tcp.is (tcp_checksum_is c.args.around _ c.args.numbers.now (omega arith) (omega arith) c.checksum.ensures)

pub returns-in-Udp : goal.returns-in-Udp
returns-in-Udp c = rw c.in-Udp.is (udp_checksum_is c.args.around _ _ c.args.numbers.now (omega arith) (omega arith) c.checksum-in-Udp.ensures c.never_zero.ensures)

pub returns-in-Icmpv4 : goal.returns-in-Icmpv4
returns-in-Icmpv4 c = rw c.in-Icmpv4.is (icmpv4_checksum_is c.args.around _ c.args.numbers.now (omega arith) (omega arith) c.checksum-in-Icmpv4.ensures)

pub returns-in-Icmpv6 : goal.returns-in-Icmpv6
returns-in-Icmpv6 c = rw c.in-Icmpv6.is (icmpv6_checksum_is c.args.around _ c.args.numbers.now (omega arith) (omega arith) c.checksum-in-Icmpv6.ensures)
