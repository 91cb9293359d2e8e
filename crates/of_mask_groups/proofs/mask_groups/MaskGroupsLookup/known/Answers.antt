use Rattle.std.proofs.Common.{◌+◌}
use Rattle.of_mask_groups.proofs.Numbers.{rows_distinct}
use Rattle.of_mask_groups.proofs.mask_groups.MaskGroupsLookup.known.Goals as goal

pub returns : goal.returns
returns c = rw (← c.self.view_is) (rows_distinct c.self.inside.entries (c.self.inside.last + 1))
