use Rattle.std.{specs.List.IsDistinct, proofs.Common.List, proofs.Common.sym, proofs.Common.subst}
use Rattle.of_oxm.specs.declared.masks.FieldMask.{FieldMask}
use Rattle.of_cache.{specs.Listed.AreListed, specs.Listed.AreMasks, specs.Listed.is_same_mask, specs.Listed.with_mask, proofs.Splitting.listed_stored}
use Rattle.of_cache.proofs.Masks.{masks_stored, with_kept, with_once, with_there}
use Rattle.of_cache.proofs.keeping.store.Goals as goal

pub drop_masks-requires-clause-listed : goal.drop_masks-requires-clause-listed
drop_masks-requires-clause-listed c =
    let masks = c.args.masks.now.items in
    let mask = c.args.region.mask in
    let listed = listed_stored masks (with_mask mask masks) c.args.rows.now c.push_row.new.rows c.args.region c.args.answer c.requires.masks.listed (with_kept mask masks) (with_there mask masks) c.push_row.ensures.rows in
    subst (λ (ms : List FieldMask). AreListed ms c.push_row.new.rows.entries) (sym (c.list_mask.ensures.listed c.if-not-list_mask.false)) listed

pub drop_masks-requires-clause-once : goal.drop_masks-requires-clause-once
drop_masks-requires-clause-once c =
    subst (IsDistinct is_same_mask) (sym (c.list_mask.ensures.listed c.if-not-list_mask.false)) (with_once c.args.region.mask c.args.masks.now.items c.requires.masks.once)

pub returns-else-not-push_row-clause-masks : goal.returns-else-not-push_row-clause-masks
returns-else-not-push_row-clause-masks c =
    let masks = c.args.masks.now.items in
    let mask = c.args.region.mask in
    let listed = listed_stored masks (with_mask mask masks) c.args.rows.now c.push_row.new.rows c.args.region c.args.answer c.requires.masks.listed (with_kept mask masks) (with_there mask masks) c.push_row.ensures.rows in
    subst (λ (ms : List FieldMask). AreMasks ms c.push_row.new.rows.entries) (sym (c.list_mask.ensures.listed c.if-not-list_mask.false))
    (masks_stored masks c.args.rows.now.entries c.push_row.new.rows.entries mask c.requires.masks listed (c.push_row.ensures.used c.if-not-push_row.false))
