use Rattle.std.proofs.Common.{◌∙◌, refl}
use Rattle.of_mask_groups.proofs.Adding.{added_aged, added_rows, added_unused, added_not}
use Rattle.of_mask_groups.proofs.mask_groups.MaskGroupsLookup.add.Goals as goal

pub invariant_of-self : goal.invariant_of-self
invariant_of-self c =
    let x = c.next_age-age.ensures in
    let y = c.add_entry.ensures in
    (added_aged c.next_age-age.new.entries c.add_entry.new.entries c.next_age-age.result (record { priority = c.args.priority; age = c.next_age-age.result; fields = c.args.fields }) c.add_entry.result x.aged refl y.updates y.err, y.grouped)

pub returns-clause-ok : goal.returns-clause-ok
returns-clause-ok c =
    let x = c.next_age-age.ensures in
    let y = c.add_entry.ensures in
    added_rows c.next_age-age.new.entries c.add_entry.new.entries c.next_age-age.result (record { priority = c.args.priority; age = c.next_age-age.result; fields = c.args.fields }) c.args.self.now c.add_entry.result x.aged refl (x.rows ∙ c.self.view_is) y.vacant y.updates

pub returns-clause-unused : goal.returns-clause-unused
returns-clause-unused c =
    let x = c.next_age-age.ensures in
    added_unused c.next_age-age.new.entries c.next_age-age.result c.args.self.now c.add_entry.result (x.rows ∙ c.self.view_is) c.add_entry.ensures.vacant

pub returns-clause-err : goal.returns-clause-err
returns-clause-err c =
    let x = c.next_age-age.ensures in
    added_not c.next_age-age.new.entries c.add_entry.new.entries c.next_age-age.result c.args.self.now c.add_entry.result x.aged (x.rows ∙ c.self.view_is) c.add_entry.ensures.err
