use Rattle.std.proofs.Common.{refl}
use Rattle.of_messages.proofs.{Appended.three_parts, Appended.four_parts, PacketFields.with_metadata, PacketFields.without_metadata, PacketFields.not_zero}
use Rattle.of_messages.proofs.writing.put_packet_fields.Goals as goal

pub returns-in_ok-put_u32 : goal.returns-in_ok-put_u32
returns-in_ok-put_u32 c =
    rw (without_metadata c.args.in_port c.args.metadata (rw c.if-metadata-eq0.true refl))
    (three_parts c.put_u32-then-metadata-eq0.result _ _ _ _ _ c.in_ok-extend_from_slice.ensures.items c.in_ok-put_u32.ensures c.put_u32-then-metadata-eq0.ensures)

pub returns-in_ok-extend_from_slice-3 : goal.returns-in_ok-extend_from_slice-3
returns-in_ok-extend_from_slice-3 c =
    rw (with_metadata c.args.in_port c.args.metadata (not_zero c.args.metadata c.if-metadata-eq0.false))
    (four_parts c.put_u64.result _ _ _ _ _ _ c.in_ok-extend_from_slice-2.ensures.items c.in_ok-put_u32-2.ensures c.in_ok-extend_from_slice-3.ensures.items c.put_u64.ensures)
