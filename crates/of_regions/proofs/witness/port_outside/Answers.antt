use Rattle.of_regions.proofs.WitnessLemmas.{bit_ingress, outside}
use Rattle.of_regions.proofs.witness.port_outside.Goals as goal

pub returns-clause-some : goal.returns-clause-some
returns-clause-some c =
    (bit_ingress c.args.mask c.without-bits.result c.lowest.result c.without-bits.ensures c.lowest.ensures, outside 0xffffffff c.args.mask c.without-bits.result c.lowest.result c.without-bits.ensures c.lowest.ensures)
