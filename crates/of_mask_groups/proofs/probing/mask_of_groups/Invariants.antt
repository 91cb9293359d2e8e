use Rattle.std.proofs.Common.{◌≡◌, take}
use Rattle.of_layers.specs.declared.field.Field.{Field}
use Rattle.of_oxm.specs.Masks.{mask_at}
use Rattle.of_mask_groups.specs.Probed.{groups_look}
use Rattle.of_mask_groups.proofs.probing.mask_of_groups.Given as goal

-- the masks of the groups before
abbrev pub invariant-loop-group : goal.invariant-loop-group
invariant-loop-group l = (f : Field) → mask_at l.mask f ≡ groups_look (take l.group-index l.groups) f
