use Rattle.std.proofs.Common.{ℕ, ◌+◌, ◌*◌, ap, ◌∙◌}
use Rattle.of_layers.specs.{Bits.bits, Fields.row_of, declared.field.Field.TheVariants.IpDscp, declared.field.Field.TheVariants.IpEcn, declared.field.Field.TheVariants.Ipv6Flabel}
use Rattle.of_frames.proofs.AddingLemmas.{add, same, last, low, four, first_bits}
use Rattle.of_frames.{specs.Given.given_number, specs.Given.number, proofs.FitLemmas.given_small}
use Rattle.of_frames.proofs.packets.push_ipv6_header.Goals as goal

pub returns : goal.returns
unfolding row_of
returns c =
    let n = c.args.numbers.now in
    four (bits 4 6) (bits 6 (given_number (number n) IpDscp)) (bits 2 (given_number (number n) IpEcn)) (bits 20 (given_number (number n) Ipv6Flabel))
    (same _ (ap (λ (s : ℕ). bits 32 ((6 * 256 + s) * 1048576 + given_number (number n) Ipv6Flabel)) c.service_of.ensures ∙ first_bits (given_number (number n) IpDscp) (given_number (number n) IpEcn) (given_number (number n) Ipv6Flabel) (given_small (number n) IpDscp) (given_small (number n) IpEcn) (given_small (number n) Ipv6Flabel)) c.in_ok-push_double.ensures)
    (add (same _ (ap (bits 16) c.size_of.ensures.size) c.in_ok-push_word.ensures)
    (add (same _ (ap (bits 8) c.protocol_of.ensures) c.in_ok-push_byte.ensures)
    (add c.in_ok-push_byte-2.ensures
    (add (low 128 n.ipv6_src c.in_ok-push_sixteen.ensures)
    (last (low 128 n.ipv6_dst c.in_ok-push_sixteen-2.ensures))))))
