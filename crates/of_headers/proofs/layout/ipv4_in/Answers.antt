use Rattle.std.proofs.Common.{◌≡◌, ◌-◌, ◌%◌, ◌≢◌, min, length, get_or, arith}
use Rattle.of_layers.specs.Reading.{word, header_size, over_ipv4, whole_in}
use Rattle.of_headers.proofs.LayoutLemmas.{first_network, later_network}
use Rattle.of_headers.proofs.layout.ipv4_in.Goals as goal

pub returns-then-word_at-eq0 : goal.returns-then-word_at-eq0
returns-then-word_at-eq0 c =
    let first : word c.args.packet.now 6 % 8192 ≡ 0 = omega arith in
    let kind : c.transport_in-transport.result ≡ whole_in (over_ipv4 (get_or c.args.packet.now 9 0)) (min (word c.args.packet.now 2) (length c.args.packet.now) - header_size c.args.packet.now) = cc in
    first_network c.args.packet.now c.transport_in-transport.result c.requires first kind

pub returns-else-word_at-eq0 : goal.returns-else-word_at-eq0
returns-else-word_at-eq0 c =
    let later : word c.args.packet.now 6 % 8192 ≢ 0 = omega arith in
    later_network c.args.packet.now c.requires later
