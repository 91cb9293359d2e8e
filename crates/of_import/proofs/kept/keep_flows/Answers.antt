use Rattle.std.proofs.Common.{◌≡◌, ◌∙◌, ◌++◌, ◌∷◌, [], List, ap}
use Rattle.std.specs.Prelude.{map}
use Rattle.of_text.specs.{First.first_refusal, Groups.TextGroup, Views.view_groups}
use Rattle.of_import.proofs.KeptLemmas.{copied, sifting_start, sifting_more, sifting_next, sifting_done, no_more}
use Rattle.of_import.specs.{Kept.accepted, Kept.groups_in, Kept.refused_flows, KeptViews.view_refusal, ParsedLinesViews.view_flow_line, ParsedLinesViews.view_group_line}
use Rattle.of_import.proofs.kept.keep_flows.Goals as goal

pub loop-it-init : goal.loop-it-init
loop-it-init c = sifting_start (groups_in (map view_group_line c.args.groups.now)) c.args.flows.items c.reverse.new.self.items c.new-kept.result.items (map view_refusal c.args.refused.now.items) c.reverse.ensures.items c.new-kept.ensures.items c.requires.flows

pub judge-requires-clause-groups : goal.judge-requires-clause-groups
judge-requires-clause-groups c = ap (λ (gs : List TextGroup). first_refusal gs []) (copied c.deref.result.now c.in_ok-texts.texts.items c.args.groups.now c.deref.ensures.value c.in_ok-texts.ensures) ∙ c.requires.groups

pub judge-requires-clause-flow : goal.judge-requires-clause-flow
judge-requires-clause-flow c = sifting_next c.loop-it.left.items c.pop.new.self.items c.in-Some.it c.loop-it.invariant.to_come c.in-Some.ensures.items

pub loop-it-preserved : goal.loop-it-preserved
loop-it-preserved c =
    let same : view_groups c.deref.result.now ≡ groups_in (map view_group_line c.args.groups.now) = copied c.deref.result.now c.in_ok-texts.texts.items c.args.groups.now c.deref.ensures.value c.in_ok-texts.ensures in
    sifting_more (groups_in (map view_group_line c.args.groups.now)) (map view_flow_line c.args.flows.items) (map view_refusal c.args.refused.now.items) c.loop-it.left.items c.pop.new.self.items c.loop-it.kept.items c.judge.new.kept.items (map view_refusal c.loop-it.refused.items) (map view_refusal c.judge.new.refused.items) c.in-Some.it c.loop-it.invariant c.in-Some.ensures.items
    (c.in_ok-judge.ensures.accepted ∙ ap (λ (gs : List TextGroup). map view_flow_line c.loop-it.kept.items ++ accepted gs (view_flow_line c.in-Some.it ∷ [])) same)
    (c.in_ok-judge.ensures.refused ∙ ap (λ (gs : List TextGroup). map view_refusal c.loop-it.refused.items ++ refused_flows gs (view_flow_line c.in-Some.it ∷ [])) same)
    c.in_ok-judge.ensures.sound

pub returns-clause-accepted : goal.returns-clause-accepted
returns-clause-accepted c = (sifting_done (groups_in (map view_group_line c.args.groups.now)) (map view_flow_line c.args.flows.items) (map view_refusal c.args.refused.now.items) c.loop-it.left.items c.loop-it.kept.items (map view_refusal c.loop-it.refused.items) c.loop-it.invariant (no_more c.loop-it.left (λ p. let some = c.in_default.ensures.variant.1 p in absurd cc))).0

pub returns-clause-refused : goal.returns-clause-refused
returns-clause-refused c = (sifting_done (groups_in (map view_group_line c.args.groups.now)) (map view_flow_line c.args.flows.items) (map view_refusal c.args.refused.now.items) c.loop-it.left.items c.loop-it.kept.items (map view_refusal c.loop-it.refused.items) c.loop-it.invariant (no_more c.loop-it.left (λ p. let some = c.in_default.ensures.variant.1 p in absurd cc))).1
