use Rattle.std.proofs.Common.{List, sym, ap, subst}
use Rattle.slab.specs.Slab.{Slab}
use Rattle.of_mask_groups.specs.{declared.entry.Entry.Entry, declared.group.Group.Group, Grouping.AreGrouped}
use Rattle.of_mask_groups.proofs.Adding.{grouped_slots, vacant_result, updates_result}
use Rattle.of_mask_groups.proofs.mask_groups.add_entry.Goals as goal

pub returns-in_err-reserve-clause-grouped : goal.returns-in_err-reserve-clause-grouped
returns-in_err-reserve-clause-grouped c = grouped_slots c.args.entries.now c.reserve.new.self c.args.groups.now.list.items (ap (λ (s : Slab Entry). s.slots) c.reserve.ensures.rest_kept) c.requires.grouped

pub returns-in_err-reserve-2-clause-grouped : goal.returns-in_err-reserve-2-clause-grouped
returns-in_err-reserve-2-clause-grouped c = subst (λ (xs : List Group). AreGrouped c.reserve.new.self xs) (sym c.reserve-2.ensures.items) (grouped_slots c.args.entries.now c.reserve.new.self c.args.groups.now.list.items (ap (λ (s : Slab Entry). s.slots) c.reserve.ensures.rest_kept) c.requires.grouped)

pub insert_entry-requires-clause-grouped : goal.insert_entry-requires-clause-grouped
insert_entry-requires-clause-grouped c = subst (λ (xs : List Group). AreGrouped c.reserve.new.self xs) (sym c.reserve-2.ensures.items) (grouped_slots c.args.entries.now c.reserve.new.self c.args.groups.now.list.items (ap (λ (s : Slab Entry). s.slots) c.reserve.ensures.rest_kept) c.requires.grouped)

pub returns-clause-vacant : goal.returns-clause-vacant
returns-clause-vacant c = vacant_result c.args.entries.now c.reserve.new.self c.insert_entry.result (ap (λ (s : Slab Entry). s.slots) c.reserve.ensures.rest_kept) c.insert_entry.ensures.vacant

pub returns-clause-updates : goal.returns-clause-updates
returns-clause-updates c = updates_result c.args.entries.now c.reserve.new.self c.insert_entry.new.entries c.args.entry c.insert_entry.result (ap (λ (s : Slab Entry). s.slots) c.reserve.ensures.rest_kept) c.insert_entry.ensures.updates
