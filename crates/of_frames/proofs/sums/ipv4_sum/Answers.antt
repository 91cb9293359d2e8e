use Rattle.std.proofs.Common.{arith}
use Rattle.of_frames.proofs.SumLemmas.{ipv4_sum_is}
use Rattle.of_frames.proofs.sums.ipv4_sum.Goals as goal

pub returns-clause-sum : goal.returns-clause-sum
returns-clause-sum c =
    ipv4_sum_is c.args.kind c.args.numbers.now _ _ _ _ (omega arith) (omega arith) c.size_of.ensures.size c.protocol_of.ensures c.sum_of_double.ensures.sum c.sum_of_double-2.ensures.sum
