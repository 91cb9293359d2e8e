use Rattle.std.proofs.Common.{◌≡◌, true, false, Some, sym, ◌∙◌, subst}
use Rattle.slab.specs.Slab.{Updates}
use Rattle.of_mask_groups.{specs.declared.groups.Groups.Groups, specs.Cells.key_digest, specs.Grouping.AreGrouped, specs.Grouping.HasMore, proofs.Splitting.split_same, proofs.Splitting.grouped_left}
use Rattle.of_mask_groups.proofs.{Turning.split_more, Adding.looks_by, Adding.asks_by, Adding.some_more}
use Rattle.of_mask_groups.proofs.mask_groups.insert_apart.Goals.{then-not-is_empty, else-not-is_empty}
use Rattle.of_mask_groups.proofs.mask_groups.insert_apart.Goals as goal

pub put_back-requires-clause-falling : goal.put_back-requires-clause-falling
put_back-requires-clause-falling c = (c.take_group-group.ensures.split c.args.entries.now c.requires.grouped).falling

pub put_back-requires-then-not-is_empty-clause-falling : goal.put_back-requires-then-not-is_empty-clause-falling
put_back-requires-then-not-is_empty-clause-falling c = (c.take_group-group.ensures.split c.args.entries.now c.requires.grouped).falling

pub returns-in-Ok-clause-grouped : goal.returns-in-Ok-clause-grouped
returns-in-Ok-clause-grouped c =
    let old = c.args.entries.now in
    let new = c.insert_reserved.new.self in
    let n = c.vacant_key-number.result in
    let e = c.args.entry in
    let g = c.take_group-group.result in
    let h = c.insert.new.self in
    let same = c.insert_reserved.ensures.key ∙ sym c.vacant_key-number.ensures.value in
    let u : Updates old new n (Some e) = subst (λ k. Updates old new k (Some e)) same c.insert_reserved.ensures.updates in
    let more : HasMore g h (key_digest g.secret c.key_of-key.result) e.priority n = c.in-Ok.ensures.ok in
    c.put_back.ensures.grouped new
    (split_more old new c.take_group-group.new.groups.list.items g h c.key_of-key.result n e c.vacant_key-number.ensures.vacant u c.requires.normal
    (looks_by g c.args.mask.now e c.take_group-group.ensures.mask c.requires.mask) (asks_by c.key_of-key.result e c.key_of-key.ensures)
    more (c.take_group-group.ensures.split old c.requires.grouped))
    (some_more g h (key_digest g.secret c.key_of-key.result) e.priority n more)

pub returns-after-not-is_empty-clause-grouped : goal.returns-after-not-is_empty-clause-grouped
returns-after-not-is_empty-clause-grouped c =
    let old = c.args.entries.now in
    let g = c.take_group-group.result in
    let h = c.insert.new.self in
    let a = split_same old c.take_group-group.new.groups.list.items g h c.in-Err.ensures.err (c.take_group-group.ensures.split old c.requires.grouped) in
    elim c.if-not-is_empty.branch [
      | then-not-is_empty w ↦ subst (λ (v : Groups). AreGrouped old v.list.items) (sym w.groups-is) (w.put_back-then-not-is_empty.ensures.grouped old a (λ e. absurd (let f : true ≡ false = sym (c.is_empty.ensures.no e) ∙ w.if-not-is_empty.true in cc)))
      | else-not-is_empty w ↦ subst (λ (v : Groups). AreGrouped old v.list.items) (sym w.groups-is) (grouped_left old c.take_group-group.new.groups.list.items h a (c.is_empty.ensures.yes w.if-not-is_empty.false))
    ]
