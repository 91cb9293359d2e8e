use Rattle.std.proofs.Common.{◌≡◌, true, false, sym, ◌∙◌}
use Rattle.of_mask_groups.proofs.{Splitting.grouped_left, Turning.split_less, Adding.looks_by, Adding.asks_by}
use Rattle.of_mask_groups.proofs.mask_groups.take_entry.Goals as goal

pub put_back-requires-clause-falling : goal.put_back-requires-clause-falling
put_back-requires-clause-falling c = (c.take_group-group.ensures.split c.args.entries.now c.requires.grouped).falling

pub returns-then-not-is_empty-clause-grouped : goal.returns-then-not-is_empty-clause-grouped
returns-then-not-is_empty-clause-grouped c =
    let old = c.args.entries.now in
    let new = c.try_remove.new.self in
    let e = c.in-Some.entry in
    let g = c.take_group-group.result in
    let h = c.remove.new.self in
    let a = c.take_group-group.ensures.split old c.requires.grouped in
    c.put_back.ensures.grouped new
    (split_less old new c.take_group-group.new.groups.list.items g h c.key_of-key.result c.args.number e (sym c.in-Some.ensures.value) c.try_remove.ensures.updates
    (looks_by g c.mask_of.result e c.take_group-group.ensures.mask c.mask_of.ensures) (asks_by c.key_of-key.result e c.key_of-key.ensures) c.remove.ensures a)
    (λ s. absurd (let f : true ≡ false = sym (c.is_empty.ensures.no s) ∙ c.if-not-is_empty.true in cc))

pub returns-in-Some-clause-grouped : goal.returns-in-Some-clause-grouped
returns-in-Some-clause-grouped c =
    let old = c.args.entries.now in
    let new = c.try_remove.new.self in
    let e = c.in-Some.entry in
    let g = c.take_group-group.result in
    let h = c.remove.new.self in
    let a = c.take_group-group.ensures.split old c.requires.grouped in
    grouped_left new c.take_group-group.new.groups.list.items h
    (split_less old new c.take_group-group.new.groups.list.items g h c.key_of-key.result c.args.number e (sym c.in-Some.ensures.value) c.try_remove.ensures.updates
    (looks_by g c.mask_of.result e c.take_group-group.ensures.mask c.mask_of.ensures) (asks_by c.key_of-key.result e c.key_of-key.ensures) c.remove.ensures a)
    (c.is_empty.ensures.yes c.if-not-is_empty.false)
