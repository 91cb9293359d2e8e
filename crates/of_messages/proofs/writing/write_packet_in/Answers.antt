use Rattle.std.proofs.Common.{◌≡◌, ◌∙◌, length, arith, sym, subst}
use Rattle.of_oxm.specs.Canonical.{canonical}
use Rattle.of_messages.{specs.Written.packet_fields, specs.Written.packet_in_bytes, specs.Written.IsMessage, proofs.Appended.packet_in_is, proofs.Lengths.packet_in_is_message}
use Rattle.of_messages.proofs.writing.write_packet_in.Goals as goal

pub new-requires-2 : goal.new-requires-2
new-requires-2 c =
    let fields = canonical (packet_fields c.args.packet.now.in_port c.args.packet.now.metadata) in
    let size : c.packet_fields_size.result ≡ length fields = c.packet_fields_size.ensures.size in
    let whole : c.new.result ≡ packet_in_bytes c.args.xid c.args.packet.now c.args.«data».now =
    c.new.ensures
    ∙ packet_in_is c.args.xid _ c.args.packet.now fields c.args.«data».now _ c.extend_from_slice-2.new.self.items
    c.in_ok-out.ensures.items c.in_ok-put_header.ensures c.in_ok-put_packet_in.ensures c.in_ok-put_packet_fields.ensures c.in_ok-extend_from_slice.ensures.items c.in_ok-extend_from_slice-2.ensures.items
    (omega (arith, size)) in
    subst IsMessage (sym whole) (packet_in_is_message c.args.xid c.args.packet.now c.args.«data».now (omega (arith, size, c.packet_fields_size.ensures.most)) c.requires)

pub returns : goal.returns
returns c =
    let fields = canonical (packet_fields c.args.packet.now.in_port c.args.packet.now.metadata) in
    let size : c.packet_fields_size.result ≡ length fields = c.packet_fields_size.ensures.size in
    c.new-2.ensures
    ∙ c.new.ensures
    ∙ packet_in_is c.args.xid _ c.args.packet.now fields c.args.«data».now _ c.extend_from_slice-2.new.self.items
    c.in_ok-out.ensures.items c.in_ok-put_header.ensures c.in_ok-put_packet_in.ensures c.in_ok-put_packet_fields.ensures c.in_ok-extend_from_slice.ensures.items c.in_ok-extend_from_slice-2.ensures.items
    (omega (arith, size))
