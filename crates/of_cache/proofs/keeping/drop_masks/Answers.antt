use Rattle.std.proofs.{Common.rules, Common.sym, Common.List, Common.subst, lemmas.Fn.filter_same}
use Rattle.of_oxm.specs.declared.masks.FieldMask.{FieldMask}
use Rattle.of_cache.{specs.Listed.AreMasks, proofs.Masks.masks_left}
use Rattle.of_cache.proofs.keeping.drop_masks.Goals as goal

pub returns : goal.returns
returns c =
    subst (λ (ms : List FieldMask). AreMasks ms c.args.rows.now.entries) (sym (filter_same _ _ _ (λ x b f' k. search rules) _ _ c.retain.ensures.filtered))
    (masks_left c.args.masks.now.items c.args.rows.now.entries c.requires.listed c.requires.once)
