use Rattle.std.proofs.Common.{ℕ, ◌∙◌, ap}
use Rattle.of_layers.specs.Layers.{carried_cells, encoded}
use Rattle.of_frames.{specs.Checksums.carried_checksum, specs.Given.number, specs.Packets.carried_given, specs.Packets.ipv4_given, proofs.AddingLemmas.same, proofs.AddingLemmas.ipv4_packet}
use Rattle.of_frames.proofs.packets.push_ipv4.Goals as goal

pub returns : goal.returns
returns c =
    let v = number c.args.numbers.now in
    ipv4_packet (ipv4_given c.args.kind v) _ c.in_ok-push_ipv4_header.ensures
    (same _ (ap (λ (sum : ℕ). encoded (carried_cells (carried_given c.args.kind v sum))) (c.carried_checksum-checksum.ensures ∙ ap (λ (around : ℕ). carried_checksum around c.args.kind v) c.ipv4_sum.ensures.sum)) c.in_ok-push_carried.ensures)
