use Rattle.of_diff.proofs.RevealingLemmas.{of_row}
use Rattle.of_diff.proofs.revealing.with_bits.Goals as goal

pub returns : goal.returns
returns c = of_row c.args.field c.row.result c.row.ensures.row c.args.bits c.args.wanted
