use Rattle.std.proofs.Common.{ℕ, ◌∙◌, ap}
use Rattle.of_layers.specs.Layers.{carried_cells, encoded}
use Rattle.of_frames.{specs.Checksums.carried_checksum, specs.Given.number, specs.Packets.carried_given, specs.Packets.ipv6_given, proofs.AddingLemmas.same, proofs.AddingLemmas.ipv6_packet}
use Rattle.of_frames.proofs.packets.push_ipv6.Goals as goal

pub returns : goal.returns
returns c =
    let v = number c.args.numbers.now in
    ipv6_packet (ipv6_given c.args.kind v) _ c.in_ok-push_ipv6_header.ensures
    (same _ (ap (λ (sum : ℕ). encoded (carried_cells (carried_given c.args.kind v sum))) (c.carried_checksum-checksum.ensures ∙ ap (λ (around : ℕ). carried_checksum around c.args.kind v) c.ipv6_sum.ensures.sum)) c.in_ok-push_carried.ensures)
