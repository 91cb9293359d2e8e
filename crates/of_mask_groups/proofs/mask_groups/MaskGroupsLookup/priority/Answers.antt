use Rattle.std.proofs.Common.{◌+◌, Some, None, sym}
use Rattle.of_mask_groups.proofs.Looking.{priority_is}
use Rattle.of_mask_groups.proofs.mask_groups.MaskGroupsLookup.priority.Goals as goal

pub returns-in-Some : goal.returns-in-Some
returns-in-Some c = priority_is c.self.inside.entries (c.self.inside.last + 1) c.args.number (Some c.in-Some.entry.now) c.args.self.now c.self.view_is c.self.invariant.0 (sym c.in-Some.ensures)

pub returns-in-None : goal.returns-in-None
returns-in-None c = priority_is c.self.inside.entries (c.self.inside.last + 1) c.args.number None c.args.self.now c.self.view_is c.self.invariant.0 (sym c.in-None.ensures)
