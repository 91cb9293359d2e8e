use Rattle.std.proofs.Common.{sym, ◌∙◌, ap}
use Rattle.of_headers.{specs.declared.key.FieldKey.FieldKey, specs.FieldMap.value, proofs.SameFields.equal_keys}
use Rattle.of_cache.proofs.beaten.is_within.Goals as goal

pub returns : goal.returns
returns c = λ t f. sym (c.masked.ensures f) ∙ ap (λ (k : FieldKey). value k f) (equal_keys c.masked.result c.args.mask.now.masks (sym c.eq.ensures ∙ t))
