use Rattle.std.proofs.Common.{◌+◌, List, ◌∙◌, ap}
use Rattle.of_wire.specs.Numbered.{without}
use Rattle.of_classifier.specs.{declared.Row.Row, Rows.row_number}
use Rattle.of_mask_groups.proofs.Changing.{aged_less, rows_less}
use Rattle.of_mask_groups.proofs.mask_groups.MaskGroupsLookup.take.Goals as goal

pub invariant_of-self : goal.invariant_of-self
invariant_of-self c = (aged_less c.self.inside.entries c.take_entry.new.entries (c.self.inside.last + 1) c.args.number c.self.invariant.0 c.take_entry.ensures.updates, c.take_entry.ensures.grouped)

pub returns : goal.returns
returns c = rows_less c.self.inside.entries c.take_entry.new.entries (c.self.inside.last + 1) c.args.number c.self.invariant.0 c.take_entry.ensures.updates ∙ ap (λ (rs : List Row). without row_number c.args.number rs) c.self.view_is
