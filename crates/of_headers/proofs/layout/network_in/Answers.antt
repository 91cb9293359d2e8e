use Rattle.std.proofs.Common.{◌≡◌, true, false, ◌&&◌, sym, ap, ◌∙◌}
use Rattle.std.specs.Prelude.{◌==◌}
use Rattle.of_layers.specs.Reading.{is_arp, is_ipv4, is_ipv6}
use Rattle.of_headers.proofs.LayoutLemmas.{body_arp, body_ipv4, body_ipv6, body_plain, arp_network}
use Rattle.of_headers.specs.Places.{network_of}
use Rattle.of_headers.proofs.layout.network_in.Goals as goal

pub returns-then-has_arp : goal.returns-then-has_arp
returns-then-has_arp c =
    let a : ((c.args.kind == 0x0806) && is_arp c.args.packet.now) ≡ true = cc in
    arp_network c.args.packet.now ∙ ap network_of (sym (body_arp c.args.kind c.args.packet.now a))

pub returns-then-has_ipv4 : goal.returns-then-has_ipv4
returns-then-has_ipv4 c =
    let a : ((c.args.kind == 0x0806) && is_arp c.args.packet.now) ≡ false = cc in
    let b : ((c.args.kind == 0x0800) && is_ipv4 c.args.packet.now) ≡ true = cc in
    c.ipv4_in.ensures ∙ ap network_of (sym (body_ipv4 c.args.kind c.args.packet.now a b))

pub returns-then-has_ipv6 : goal.returns-then-has_ipv6
returns-then-has_ipv6 c =
    let a : ((c.args.kind == 0x0806) && is_arp c.args.packet.now) ≡ false = cc in
    let b : ((c.args.kind == 0x0800) && is_ipv4 c.args.packet.now) ≡ false = cc in
    let d : ((c.args.kind == 0x86dd) && is_ipv6 c.args.packet.now) ≡ true = cc in
    c.ipv6_in.ensures ∙ ap network_of (sym (body_ipv6 c.args.kind c.args.packet.now a b d))

pub returns-else-has_ipv6 : goal.returns-else-has_ipv6
returns-else-has_ipv6 c =
    let a : ((c.args.kind == 0x0806) && is_arp c.args.packet.now) ≡ false = cc in
    let b : ((c.args.kind == 0x0800) && is_ipv4 c.args.packet.now) ≡ false = cc in
    let d : ((c.args.kind == 0x86dd) && is_ipv6 c.args.packet.now) ≡ false = cc in
    ap network_of (sym (body_plain c.args.kind c.args.packet.now a b d))
