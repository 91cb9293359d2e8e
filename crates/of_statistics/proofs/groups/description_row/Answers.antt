use Rattle.std.proofs.Common.{arith}
use Rattle.of_statistics.proofs.GroupRows.{description_is}
use Rattle.of_statistics.proofs.groups.description_row.Goals as goal

pub returns-clause-row : goal.returns-clause-row
returns-clause-row c =
    description_is _ c.args.group.now c.in_ok-buckets.buckets.items c.in_ok-row.row.items c.extend_from_slice-2.new.self.items c.in_ok-buckets.ensures.canonical (omega (arith, c.len-size.ensures, c.in_ok-buckets.buckets.ok.0)) c.in_ok-row.ensures.items c.in_ok-put_u16.ensures (rw c.number.ensures at c.in_ok-extend_from_slice.ensures.items) c.in_ok-put_u32.ensures (rw c.deref.ensures.value at c.in_ok-extend_from_slice-2.ensures.items)
