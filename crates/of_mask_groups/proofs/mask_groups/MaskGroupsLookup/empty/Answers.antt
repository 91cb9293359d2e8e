use Rattle.std.proofs.Common.{List, Option, ap}
use Rattle.of_mask_groups.specs.{declared.entry.Entry.Entry, Aged.at_age, Aged.by_age}
use Rattle.of_mask_groups.proofs.mask_groups.MaskGroupsLookup.empty.Goals as goal

pub returns : goal.returns
unfolding by_age
returns c = ap (λ (xs : List (Option Entry)). at_age 0 0 xs) c.new.ensures.empty
