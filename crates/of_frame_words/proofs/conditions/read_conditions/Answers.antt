use Rattle.std.proofs.{Common.◌∙◌, Common.ap, lemmas.Result.IfOk-weaker, lemmas.Result.err_from_is_err_and}
use Rattle.of_ovs_words.specs.Matches.{fields_of_settings}
use Rattle.of_frame_words.proofs.{WordLemmas.stops_same, SaidLemmas.err_weaker, ConditionLemmas.conditions_are, ConditionLemmas.conditions_stop}
use Rattle.of_frame_words.proofs.conditions.read_conditions.Goals as goal

pub returns-in_err-add_words-clause-stopped : goal.returns-in_err-add_words-clause-stopped
returns-in_err-add_words-clause-stopped c =
    let p = err_from_is_err_and c.from_residual.result c.from_residual.ensures.1 in
    rw (p.1, p.2) (conditions_stop c.args.text.now c.new-settings.result.items c.in_err-add_words.field-0.0 c.new-settings.ensures.items c.in_err-add_words.ensures.stopped)

pub returns-clause-read : goal.returns-clause-read
returns-clause-read c =
    IfOk-weaker c.fit.result _ _
    (λ done e. conditions_are c.args.text.now c.new-settings.result.items c.add_words.new.settings.items c.in_ok-fields.fields.items c.new-settings.ensures.items c.in_ok-add_words.ensures.added (c.in_ok-fields.ensures ∙ ap fields_of_settings c.deref.ensures.value) ∙ e)
    c.fit.ensures.fit

pub returns-clause-stopped : goal.returns-clause-stopped
returns-clause-stopped c =
    err_weaker c.fit.result _ _
    (λ stop h. stops_same _ _ stop (conditions_are c.args.text.now c.new-settings.result.items c.add_words.new.settings.items c.in_ok-fields.fields.items c.new-settings.ensures.items c.in_ok-add_words.ensures.added (c.in_ok-fields.ensures ∙ ap fields_of_settings c.deref.ensures.value)) h)
    c.fit.ensures.stopped
