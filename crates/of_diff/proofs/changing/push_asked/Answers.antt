use Rattle.std.proofs.Common.{List, sym, subst, ◌∙◌, inl, inr}
use Rattle.std.{specs.Global.Vec, specs.List.Contains, proofs.lemmas.List.Elements.Contains-push, proofs.lemmas.List.Elements.Contains-push_cases}
use Rattle.of_oxm.specs.declared.match_field.MatchField.{MatchField}
use Rattle.of_regions.specs.Conditions.{AreConditions}
use Rattle.of_symbolic.specs.Pulling.{AsksConditions, IsTrueOfFrames}
use Rattle.of_diff.proofs.changing.push_asked.Goals as goal

pub returns-in-Never-clause-asked : goal.returns-in-Never-clause-asked
returns-in-Never-clause-asked c = λ e l over rewriting frame port is yes.
    let no = subst (IsTrueOfFrames c.args.overlay.now.inner l c.args.metadata c.args.entry.now.flow.fields) c.in-Never.is (c.pulled_matches_are_of_frames.ensures c.args.overlay.now.inner l c.args.metadata c.args.entry.now.flow.fields c.in_ok-pull.field-0 rewriting (c.in_ok-pull.ensures.is l over)) frame port is in
    absurd cc

pub returns-in_ok-push-in-When-clause-asked : goal.returns-in_ok-push-in-When-clause-asked
returns-in_ok-push-in-When-clause-asked c = λ e l over rewriting frame port is yes.
    let same = subst (IsTrueOfFrames c.args.overlay.now.inner l c.args.metadata c.args.entry.now.flow.fields) c.in-When.is (c.pulled_matches_are_of_frames.ensures c.args.overlay.now.inner l c.args.metadata c.args.entry.now.flow.fields c.in_ok-pull.field-0 rewriting (c.in_ok-pull.ensures.is l over)) frame port is in
    (c.in-When.fields, rw c.in_ok-push-in-When.ensures.items (Contains-push c.args.asked.now.items c.in-When.fields), sym same ∙ yes)

pub returns-in_ok-push-in-When-clause-conditions : goal.returns-in_ok-push-in-When-clause-conditions
returns-in_ok-push-in-When-clause-conditions c = λ old m there.
    let own : AreConditions c.in-When.fields.items = subst AsksConditions c.in-When.is c.in_ok-pull.ensures.conditions in
    elim (Contains-push_cases c.args.asked.now.items c.in-When.fields m (subst (λ (ms : List (Vec MatchField)). Contains ms m) c.in_ok-push-in-When.ensures.items there)) as (λ x. AreConditions m.items) [
      | inl before ↦ old m before
      | inr same ↦ subst (λ (x : Vec MatchField). AreConditions x.items) same own
    ]
