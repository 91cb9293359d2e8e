use Rattle.std.proofs.Common.{ℕ, ◌+◌, ap, ◌∙◌}
use Rattle.of_layers.specs.{Bits.bits, Fields.row_of, declared.field.Field.TheVariants.IpDscp, declared.field.Field.TheVariants.IpEcn}
use Rattle.of_frames.proofs.AddingLemmas.{add, same, last, low, two, three, version_bits, fragment_bits, service_bits}
use Rattle.of_frames.{specs.Given.given_number, specs.Given.number, proofs.FitLemmas.given_small}
use Rattle.of_frames.proofs.packets.push_ipv4_header.Goals as goal

pub returns : goal.returns
unfolding row_of
returns c =
    let n = c.args.numbers.now in
    two (bits 4 4) (bits 4 5) (same _ version_bits c.in_ok-push_byte.ensures)
    (two (bits 6 (given_number (number n) IpDscp)) (bits 2 (given_number (number n) IpEcn)) (same _ (ap (bits 8) c.service_of.ensures ∙ service_bits (given_number (number n) IpDscp) (given_number (number n) IpEcn) (given_small (number n) IpEcn)) c.in_ok-push_byte-2.ensures)
    (add (same _ (ap (λ (z : ℕ). bits 16 (20 + z)) c.size_of.ensures.size) c.in_ok-push_word.ensures)
    (three (bits 16 0) (bits 3 0) (bits 13 0) (same _ fragment_bits c.in_ok-push_double.ensures)
    (add c.in_ok-push_byte-3.ensures
    (add (same _ (ap (bits 8) c.protocol_of.ensures) c.in_ok-push_byte-4.ensures)
    (add (same _ (ap (bits 16) c.header_checksum.ensures) c.in_ok-push_word-2.ensures)
    (add (low 32 n.ipv4_src c.in_ok-push_double-2.ensures)
    (last (low 32 n.ipv4_dst c.in_ok-push_double-3.ensures)))))))))
