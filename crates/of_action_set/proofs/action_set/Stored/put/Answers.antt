use Rattle.std.proofs.Common.{◌≤◌, length, arith}
use Rattle.of_action_set.{specs.Sets.rank, proofs.Ranked.but, proofs.Ranked.length-filter_le}
use Rattle.of_action_set.proofs.action_set.Stored.put.Goals as goal

pub put_in-requires : goal.put_in-requires
put_in-requires c =
    let most : length (but rank (rank c.args.action) c.in-Few.few.items) ≤ length c.in-Few.few.items = length-filter_le _ c.in-Few.few.items in
    (omega arith, (rw c.in-Few.is at c.requires.rising, omega (arith, most, c.len.ensures.value, c.if-len-lt-FEW.true)))
