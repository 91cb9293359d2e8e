use Rattle.std.proofs.Common.{◌≡◌, ◌∙◌, ◌∷◌, [], Some, None, sym, ap}
use Rattle.std.{specs.Prelude.map, proofs.lemmas.List.append-nil, proofs.lemmas.List.map-append}
use Rattle.of_text.specs.Views.{view, view_groups}
use Rattle.of_import.{specs.Kept.refusal_alone, specs.KeptViews.view_refusal, specs.ParsedLinesViews.view_flow_line, proofs.KeptLemmas.alone}
use Rattle.of_import.proofs.kept.judge.Goals as goal

pub returns-in_ok-push-in-Some-clause-accepted : goal.returns-in_ok-push-in-Some-clause-accepted
returns-in_ok-push-in-Some-clause-accepted c =
    let is : refusal_alone (view_groups c.args.groups.now) (view c.args.it.flow) ≡ Some c.in-Some.code = alone (view_groups c.args.groups.now) (view c.args.it.flow) c.requires.groups ∙ (sym c.refusal_beside.ensures ∙ c.in-Some.is) in
    rw is (sym (append-nil (map view_flow_line c.args.kept.now.items)))

pub returns-in_ok-push-in-Some-clause-refused : goal.returns-in_ok-push-in-Some-clause-refused
returns-in_ok-push-in-Some-clause-refused c =
    let is : refusal_alone (view_groups c.args.groups.now) (view c.args.it.flow) ≡ Some c.in-Some.code = alone (view_groups c.args.groups.now) (view c.args.it.flow) c.requires.groups ∙ (sym c.refusal_beside.ensures ∙ c.in-Some.is) in
    rw is (ap (map view_refusal) c.in_ok-push-in-Some.ensures.items ∙ map-append view_refusal c.args.refused.now.items (record { line = c.args.it.line; code = c.in-Some.code } ∷ []))

pub returns-in_ok-push-in-None-clause-accepted : goal.returns-in_ok-push-in-None-clause-accepted
returns-in_ok-push-in-None-clause-accepted c =
    let is : refusal_alone (view_groups c.args.groups.now) (view c.args.it.flow) ≡ None = alone (view_groups c.args.groups.now) (view c.args.it.flow) c.requires.groups ∙ (sym c.refusal_beside.ensures ∙ c.in-None.is) in
    rw is (ap (map view_flow_line) c.in_ok-push-in-None.ensures.items ∙ map-append view_flow_line c.args.kept.now.items (c.args.it ∷ []))

pub returns-in_ok-push-in-None-clause-refused : goal.returns-in_ok-push-in-None-clause-refused
returns-in_ok-push-in-None-clause-refused c =
    let is : refusal_alone (view_groups c.args.groups.now) (view c.args.it.flow) ≡ None = alone (view_groups c.args.groups.now) (view c.args.it.flow) c.requires.groups ∙ (sym c.refusal_beside.ensures ∙ c.in-None.is) in
    rw is (sym (append-nil (map view_refusal c.args.refused.now.items)))
