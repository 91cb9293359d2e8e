use Rattle.std.proofs.Common.{◌≡◌, ℕ, ap, ◌≤◌, ◌<◌, ◌+◌, ◌^◌, true, [], length, None, ◌∙◌, arith}
use Rattle.of_actions.specs.{Actions.AreActions, CanonicalActions.canonical_actions}
use Rattle.of_messages.specs.{Written.message_header, declared.message.Message.TheVariants.PacketOut as IsPacketOut}
use Rattle.of_laws.{specs.Grammar.buffer_of, specs.Canonical.packet_data_bytes, proofs.Written.front_written, proofs.WrittenLarge.packet_out_parts, proofs.WrittenLarge.packet_out_text}
use Rattle.of_laws.proofs.packet_out.write_packet_out.Goals as goal

pub returns : goal.returns
returns c =
    let m = c.args.m.now in
    let actions = c.in_ok-actions.actions in
    let frame = c.frame_of-frame.result.now in
    let same : actions.items ≡ canonical_actions m.actions = c.in_ok-actions.ensures.canonical in
    let text =
    packet_out_text m _ _ _ _ _ _ c.extend_from_slice-3.new.self.items c.deref.result.now frame c.buffer.result c.len-2.result c.buffer.ensures (omega (arith, c.deref.ensures.len)) (c.deref.ensures.value ∙ same) c.frame_of-frame.ensures.frame
    c.in_ok-put_u32.ensures c.in_ok-put_u32-2.ensures c.in_ok-put_u16.ensures c.in_ok-extend_from_slice.ensures.items c.in_ok-extend_from_slice-2.ensures.items c.in_ok-extend_from_slice-3.ensures.items in
    let few : length (canonical_actions m.actions) ≤ 1536 = rw (← same) c.in_ok-actions.ensures.short in
    let short : length (packet_data_bytes m.packet) ≤ 9216 = rw (← c.frame_of-frame.ensures.frame) c.frame_of-frame.ensures.most in
    let buffer : buffer_of m.packet < 256 ^ 4 = omega (arith, c.buffer.ensures) in
    let are : AreActions true [] (canonical_actions m.actions) m.actions None = rw (← same) c.in_ok-actions.ensures.encoded in
    let n = 16 + length (canonical_actions m.actions) + length (packet_data_bytes m.packet) in
    let head : c.in_ok-out.out.items ≡ message_header 13 (8 + n) c.args.xid = c.in_ok-out.ensures ∙ ap (λ (k : ℕ). message_header 13 (8 + k) c.args.xid) (omega (arith, actions.ok.0, ap length same, ap length c.frame_of-frame.ensures.frame)) in
    front_written (IsPacketOut m) c.args.xid n _ _ head (c.new.ensures ∙ text) (packet_out_parts m c.args.xid (omega arith) buffer (omega arith) few short are c.requires)
