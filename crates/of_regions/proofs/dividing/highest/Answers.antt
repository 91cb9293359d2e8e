use Rattle.of_regions.proofs.DividingLemmas.{bit_of, shifted, top_bit}
use Rattle.of_regions.proofs.dividing.highest.Goals as goal

pub returns : goal.returns
returns c = bit_of c.args.bits _ c.ilog2.result (shifted c.ilog2.result c.ilog2.ensures.bound) (top_bit c.args.bits c.ilog2.result c.ilog2.ensures.power_le c.ilog2.ensures.next_power_gt)
