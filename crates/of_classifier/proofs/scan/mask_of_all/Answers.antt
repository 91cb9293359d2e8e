use Rattle.std.proofs.Common.{List, take_all, ◌∙◌, ap, subst}
use Rattle.std.{specs.List.All, proofs.lemmas.List.Elements.All-nil, proofs.lemmas.List.Elements.All-more}
use Rattle.of_oxm.specs.{Masks.mask_at, NormalForm.IsMatch}
use Rattle.of_classifier.{specs.declared.Row.Row, specs.Looking.looked_by, proofs.Alike.looked_more, proofs.Alike.matching_alike, proofs.Alike.agree_by}
use Rattle.of_classifier.proofs.scan.mask_of_all.Goals as goal

pub loop-row-init : goal.loop-row-init
loop-row-init c = record { bits = c.empty-mask.ensures; normal = All-nil (λ (r : Row). IsMatch r.fields) }

pub loop-row-preserved : goal.loop-row-preserved
loop-row-preserved c = record {
  bits = looked_more c.args.rows.now c.loop-row.row-index c.row-item.result (mask_at c.loop-row.mask) (mask_at c.or-mask.result) (mask_at c.mask_of.result) c.loop-row-test.true c.row-item.is c.loop-row.invariant.bits c.mask_of.ensures c.or-mask.ensures;
  normal = All-more (λ (r : Row). IsMatch r.fields) c.args.rows.now c.loop-row.row-index c.row-item.result c.loop-row-test.true c.loop-row.invariant.normal (subst (λ (r : Row). IsMatch r.fields) c.row-item.is c.known.ensures);
}

pub returns-clause-mask : goal.returns-clause-mask
returns-clause-mask c = λ f. c.loop-row.invariant.bits f ∙ ap (λ (xs : List Row). looked_by xs f) (take_all c.loop-row.row-index c.args.rows.now c.loop-row-test.false)

pub returns-clause-alike : goal.returns-clause-alike
returns-clause-alike c = λ map key a.
    let all = take_all c.loop-row.row-index c.args.rows.now c.loop-row-test.false in
    matching_alike c.args.rows.now map key (subst (λ (xs : List Row). All (λ (r : Row). IsMatch r.fields) xs) all c.loop-row.invariant.normal)
    (agree_by (mask_at c.loop-row.mask) (looked_by c.args.rows.now) map key (λ f. c.loop-row.invariant.bits f ∙ ap (λ (xs : List Row). looked_by xs f) all) a)
