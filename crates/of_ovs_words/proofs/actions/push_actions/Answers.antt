use Rattle.std.proofs.Common.{◌∙◌, sym, Bool, false, List, ℕ, Ok}
use Rattle.of_actions.specs.declared.action.Action.{Action}
use Rattle.of_ovs_words.proofs.WordLemmas.{some_bytes, no_bytes, through_ends, through_passed, through_more, through_stop, stops_same, stops_on, then_ok}
use Rattle.of_ovs_words.specs.{Words.words_from, Actions.with_action_in_word, Actions.with_action_words}
use Rattle.of_ovs_words.proofs.actions.push_actions.Goals as goal

pub loop-rest-preserved-in-Ok : goal.loop-rest-preserved-in-Ok
loop-rest-preserved-in-Ok c = c.loop-rest.invariant ∙ through_more (λ (s : Bool × List Action) (word : List ℕ). with_action_in_word c.args.settings.now c.args.earlier.now s.0 s.1 word) (c.loop-rest.dropped, c.loop-rest.done.items) (c.in-Ok.drop, c.push_action.new.done.items) c.loop-rest.rest.now c.cut_word.result.0.now c.cut_word.result.1.now (some_bytes c.loop-rest.rest.now c.is_empty.result c.is_empty.ensures c.loop-rest-test.true) c.cut_word.ensures.first c.cut_word.ensures.rest (sym c.is_empty-in-loop-rest.ensures ∙ c.if-not-is_empty.true) c.in-Ok.ensures.added

pub returns-in-Err-clause-stopped : goal.returns-in-Err-clause-stopped
returns-in-Err-clause-stopped c = stops_on _ (λ (s : Bool × List Action). Ok s.1) c.in-Err.stop (stops_same _ _ c.in-Err.stop c.loop-rest.invariant (through_stop (λ (s : Bool × List Action) (word : List ℕ). with_action_in_word c.args.settings.now c.args.earlier.now s.0 s.1 word) (c.loop-rest.dropped, c.loop-rest.done.items) c.loop-rest.rest.now c.cut_word.result.0.now c.in-Err.stop (some_bytes c.loop-rest.rest.now c.is_empty.result c.is_empty.ensures c.loop-rest-test.true) c.cut_word.ensures.first (sym c.is_empty-in-loop-rest.ensures ∙ c.if-not-is_empty.true) c.in-Err.ensures.stopped))

pub loop-rest-preserved : goal.loop-rest-preserved
loop-rest-preserved c = c.loop-rest.invariant ∙ through_passed (λ (s : Bool × List Action) (word : List ℕ). with_action_in_word c.args.settings.now c.args.earlier.now s.0 s.1 word) (c.loop-rest.dropped, c.loop-rest.done.items) c.loop-rest.rest.now c.cut_word.result.0.now c.cut_word.result.1.now (some_bytes c.loop-rest.rest.now c.is_empty.result c.is_empty.ensures c.loop-rest-test.true) c.cut_word.ensures.first c.cut_word.ensures.rest (sym c.is_empty-in-loop-rest.ensures ∙ c.if-not-is_empty.false)

pub returns-clause-added : goal.returns-clause-added
returns-clause-added c = then_ok (with_action_words c.args.settings.now c.args.earlier.now (false, c.args.done.now.items) (words_from 0 c.args.words.now)) (λ (s : Bool × List Action). Ok s.1) (c.loop-rest.dropped, c.loop-rest.done.items) (c.loop-rest.invariant ∙ through_ends (λ (s : Bool × List Action) (word : List ℕ). with_action_in_word c.args.settings.now c.args.earlier.now s.0 s.1 word) (c.loop-rest.dropped, c.loop-rest.done.items) c.loop-rest.rest.now (no_bytes c.loop-rest.rest.now c.is_empty.result c.is_empty.ensures c.loop-rest-test.false))
