use Rattle.std.proofs.Common.{refl}
use Rattle.of_mask_groups.proofs.SameLemmas.{same_more}
use Rattle.of_mask_groups.proofs.same.oldest_same.Goals as goal

pub loop-number-preserved : goal.loop-number-preserved
loop-number-preserved c = same_more c.args.entries.now c.args.numbers.now c.args.fields.now c.args.priority c.loop-number.number-index _ c.loop-number.oldest _ c.loop-number-test.true refl c.older-oldest.ensures c.loop-number.invariant
