use Rattle.std.proofs.Common.{◌∙◌, [], Option, ap, sym}
use Rattle.of_wire.specs.{declared.code.Code.Code, Refusals.first_of}
use Rattle.of_text.{specs.Refusals.flow_refusals, specs.Refusals.table_refusals, specs.Refusals.or_else, specs.Views.view, specs.Views.view_groups, proofs.RefusalLemmas.first_append}
use Rattle.of_text.proofs.assembling.refusal_beside.Goals as goal

pub returns-in-Some : goal.returns-in-Some
returns-in-Some c =
    let own = flow_refusals (view c.args.flow.now) in
    let beside = table_refusals (view_groups c.args.groups.now) [] (view c.args.flow.now) in
    sym (first_append own beside ∙ ap (λ (x : Option Code). or_else x (first_of beside)) (sym c.flow_refusal.ensures.refusal ∙ c.in-Some.is))

pub returns : goal.returns
returns c =
    let own = flow_refusals (view c.args.flow.now) in
    let beside = table_refusals (view_groups c.args.groups.now) [] (view c.args.flow.now) in
    c.table_refusal.ensures ∙ sym (first_append own beside ∙ ap (λ (x : Option Code). or_else x (first_of beside)) (sym c.flow_refusal.ensures.refusal ∙ c.in_default.is))
