use Rattle.std.proofs.Common.{◌∙◌, ap, arith}
use Rattle.of_frames.{specs.Checksums.checksum_of, proofs.SumLemmas.header_sum_is}
use Rattle.of_frames.proofs.sums.header_checksum.Goals as goal

pub returns : goal.returns
returns c =
    c.checksum.ensures ∙ ap checksum_of (header_sum_is c.args.kind c.args.numbers.now _ _ _ _ _ (omega arith) (omega arith)
    c.service_of.ensures c.size_of.ensures.size c.protocol_of.ensures c.sum_of_double.ensures.sum c.sum_of_double-2.ensures.sum)
