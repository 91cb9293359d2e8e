use Rattle.std.proofs.Common.{◌≤◌, length, arith}
use Rattle.of_statistics.proofs.GroupRows.{group_row_is, group_row_short}
use Rattle.of_statistics.proofs.groups.stats_row.Goals as goal

pub returns-clause-row : goal.returns-clause-row
returns-clause-row c = let b = c.as_slice.ensures in group_row_is c.args.now c.args.references c.args.group.now c.in_ok-row.row.items c.put_buckets.new.row.items c.in_ok-row.ensures.items c.in_ok-put_front.ensures c.in_ok-put_duration.ensures (rw c.as_slice.ensures.buckets at c.in_ok-put_buckets.ensures)

pub returns-clause-short : goal.returns-clause-short
returns-clause-short c =
    let whole = group_row_is c.args.now c.args.references c.args.group.now c.in_ok-row.row.items c.put_buckets.new.row.items c.in_ok-row.ensures.items c.in_ok-put_front.ensures c.in_ok-put_duration.ensures (rw c.as_slice.ensures.buckets at c.in_ok-put_buckets.ensures) in
    let few : length c.args.group.now.buckets ≤ 16 = omega (arith, c.size_of.ensures.size, c.size_of.ensures.short) in
    rw whole (group_row_short c.args.now c.args.references c.args.group.now few)
