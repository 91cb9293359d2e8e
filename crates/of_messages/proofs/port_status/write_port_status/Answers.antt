use Rattle.std.proofs.Common.{◌≡◌, ◌∙◌, sym, subst, rules}
use Rattle.of_messages.{specs.Written.port_status_bytes, specs.Written.IsMessage, proofs.PortLemmas.port_status_is, proofs.PortLemmas.port_status_is_message}
use Rattle.of_messages.proofs.port_status.write_port_status.Goals as goal

pub new-requires-2 : goal.new-requires-2
new-requires-2 c =
    let p = c.args.port.now in
    let whole : c.new.result ≡ port_status_bytes c.args.xid c.args.reason p =
    c.new.ensures
    ∙ port_status_is c.args.xid c.args.reason p _ c.put_bits.new.out.items c.in_ok-put_names.ensures.size
    c.in_ok-out.ensures.items c.in_ok-put_header.ensures (search rules) c.in_ok-put_names.ensures.text c.in_ok-put_bits.ensures in
    subst IsMessage (sym whole) (port_status_is_message c.args.xid c.args.reason p c.in_ok-put_names.ensures.size)

pub returns : goal.returns
returns c =
    let p = c.args.port.now in
    c.new-2.ensures
    ∙ c.new.ensures
    ∙ port_status_is c.args.xid c.args.reason p _ c.put_bits.new.out.items c.in_ok-put_names.ensures.size
    c.in_ok-out.ensures.items c.in_ok-put_header.ensures (search rules) c.in_ok-put_names.ensures.text c.in_ok-put_bits.ensures
