use Rattle.std.proofs.Common.{Some, sym, ◌∙◌, ap, subst}
use Rattle.std.proofs.Math.Seq.{map-set_same}
use Rattle.slab.specs.Slab.{Updates}
use Rattle.of_oxm.specs.declared.masks.FieldMask.{FieldMask}
use Rattle.of_mask_groups.{specs.Cells.key_digest, specs.Grouping.mask_digest, proofs.Adding.asks_by}
use Rattle.of_mask_groups.proofs.Placing.{more_at, same_at}
use Rattle.of_mask_groups.proofs.mask_groups.insert_in_place.Goals as goal

pub invariant_of-groups-clause-digested : goal.invariant_of-groups-clause-digested
invariant_of-groups-clause-digested c =
    let secret = c.args.groups.now.secret in
    let same = ap (λ (m : FieldMask). key_digest secret m.masks) c.insert.ensures.mask ∙ ap (mask_digest secret) c.index_mut.ensures.value in
    c.args.groups.now.digested ∙ sym (map-set_same (mask_digest secret) c.args.groups.now.list.items c.args.place c.insert.new.self c.index_mut.result.now same)

pub returns-in_err-insert-clause-grouped : goal.returns-in_err-insert-clause-grouped
returns-in_err-insert-clause-grouped c = same_at c.args.entries.now c.args.groups.now.list.items c.args.place c.index_mut.result.now c.insert.new.self c.requires.within c.index_mut.ensures.value c.in_err-insert.ensures.err c.requires.grouped

pub returns-clause-grouped : goal.returns-clause-grouped
returns-clause-grouped c =
    let old = c.args.entries.now in
    let new = c.insert_reserved.new.self in
    let n = c.vacant_key-number.result in
    let e = c.args.entry in
    let g = c.index_mut.result.now in
    let at = c.index_mut.ensures.value in
    let same = c.insert_reserved.ensures.key ∙ sym c.vacant_key-number.ensures.value in
    let u : Updates old new n (Some e) = subst (λ k. Updates old new k (Some e)) same c.insert_reserved.ensures.updates in
    more_at old new c.args.groups.now.list.items c.args.place g c.insert.new.self c.key_of.result n e c.requires.within at c.requires.grouped c.vacant_key-number.ensures.vacant u c.requires.normal
    (c.requires.looks g (sym at)) (asks_by c.key_of.result e c.key_of.ensures) c.in_ok-insert.ensures.ok (c.requires.low g (sym at))
