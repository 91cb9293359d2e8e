use Rattle.std.proofs.Common.{◌≡◌, get_or, take, ap, sym, ◌∙◌, List, None}
use Rattle.of_layers.specs.declared.field.Field.TheVariants.{InPort}
use Rattle.of_oxm.specs.{declared.match_field.MatchField.MatchField, NormalForm.IsKept}
use Rattle.of_symbolic.proofs.SoFar.{all_same, all_taken, all_unknown, field_more, kept_at, never_at, next_so_far, nothing_more, open_more}
use Rattle.of_symbolic.proofs.pulling.pull.Goals.{in-Open, in-Nothing, in-Asks+in_ok-push-in-Asks}
use Rattle.of_symbolic.proofs.pulling.pull.Goals as goal

-- what is read past the end of a list
none : MatchField
none = record { field = InPort; value = 0; mask = None }

pub returns-in-Never-clause-is : goal.returns-in-Never-clause-is
unfolding none
returns-in-Never-clause-is c = never_at c.args.overlay.now c.args.metadata c.asks_tag-tagged.result c.args.m.now c.fields-e-items.result.now c.loop-e.e-index none (cc) c.fields-e-items.ensures c.known.ensures.each c.loop-e-test.true (sym c.ask.ensures ∙ c.in-Never.is)

pub loop-e-preserved : goal.loop-e-preserved
unfolding none
loop-e-preserved c =
    let s : List MatchField = c.fields-e-items.result.now in
    let e : MatchField = get_or s c.loop-e.e-index none in
    let kept : IsKept e = kept_at c.args.m.now s c.loop-e.e-index none c.fields-e-items.ensures c.known.ensures.each c.loop-e-test.true in
    elim c.match-ask.branch [
      | in-Open w ↦
          next_so_far c.args.overlay.now c.args.metadata c.asks_tag-tagged.result c.args.m.now s c.loop-e.e-index none _ _ _ _ c.fields-e-items.ensures c.loop-e-test.true w.open-is (ap (λ v. v.items) w.fields-is)
          (open_more c.args.overlay.now c.args.metadata c.asks_tag-tagged.result (take c.loop-e.e-index c.args.m.now) e c.loop-e.open c.loop-e.fields.items (sym c.ask.ensures ∙ w.in-Open.is) c.loop-e.invariant)
      | in-Nothing w ↦
          next_so_far c.args.overlay.now c.args.metadata c.asks_tag-tagged.result c.args.m.now s c.loop-e.e-index none _ _ _ _ c.fields-e-items.ensures c.loop-e-test.true w.open-is (ap (λ v. v.items) w.fields-is)
          (nothing_more c.args.overlay.now c.args.metadata c.asks_tag-tagged.result (take c.loop-e.e-index c.args.m.now) e c.loop-e.open c.loop-e.fields.items kept (sym c.ask.ensures ∙ w.in-Nothing.is) c.loop-e.invariant)
      | in-Asks+in_ok-push-in-Asks w ↦
          next_so_far c.args.overlay.now c.args.metadata c.asks_tag-tagged.result c.args.m.now s c.loop-e.e-index none _ _ _ _ c.fields-e-items.ensures c.loop-e-test.true w.open-is (ap (λ v. v.items) w.fields-is ∙ w.in_ok-push-in-Asks.ensures.items)
          (field_more c.args.overlay.now c.args.metadata c.asks_tag-tagged.result (take c.loop-e.e-index c.args.m.now) e w.in-Asks.asked c.loop-e.open c.loop-e.fields.items kept (sym c.ask.ensures ∙ w.in-Asks.is) c.loop-e.invariant)
    ]

pub returns-then-open-clause-unknown : goal.returns-then-open-clause-unknown
returns-then-open-clause-unknown c =
    let all : take c.loop-e.e-index c.args.m.now ≡ c.args.m.now = all_taken c.args.m.now c.fields-e-items.result.now c.loop-e.e-index c.fields-e-items.ensures c.loop-e-test.false in
    λ u. all_unknown c.args.overlay.now c.args.metadata c.asks_tag-tagged.result c.args.m.now c.loop-e.open c.loop-e.fields.items (cc) c.if-open.true (rw all at c.loop-e.invariant)

pub returns-clause-is : goal.returns-clause-is
returns-clause-is c =
    let all : take c.loop-e.e-index c.args.m.now ≡ c.args.m.now = all_taken c.args.m.now c.fields-e-items.result.now c.loop-e.e-index c.fields-e-items.ensures c.loop-e-test.false in
    all_same c.args.overlay.now c.args.metadata c.asks_tag-tagged.result c.args.m.now c.loop-e.open c.loop-e.fields.items (cc) c.if-open.false (rw all at c.loop-e.invariant)
