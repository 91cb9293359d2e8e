use Rattle.std.proofs.Common.{List, ◌∙◌, ap, sym, subst}
use Rattle.std.proofs.lemmas.Result.{IfOk-weaker, err_from_is_err_and}
use Rattle.of_oxm.specs.declared.match_field.MatchField.{MatchField}
use Rattle.of_frame_words.{specs.Frames.checked, specs.Frames.received_frame, specs.Refusals.FrameStops, specs.Views.view_received, proofs.WordLemmas.stops_same}
use Rattle.of_frame_words.proofs.SaidLemmas.{checked_stops, err_weaker, frame_is, frame_stops}
use Rattle.of_frame_words.proofs.frame.read_frame.Goals as goal

pub returns-in_err-add_words-clause-stopped : goal.returns-in_err-add_words-clause-stopped
returns-in_err-add_words-clause-stopped c =
    let p = err_from_is_err_and c.from_residual.result c.from_residual.ensures.1 in
    rw (p.1, p.2) (frame_stops c.args.port c.args.text.now c.new-settings.result.items c.in_err-add_words.field-0.0 c.new-settings.ensures.items c.in_err-add_words.ensures.stopped)

pub returns-in_err-received-2-clause-stopped : goal.returns-in_err-received-2-clause-stopped
returns-in_err-received-2-clause-stopped c =
    let p = err_from_is_err_and c.from_residual-in_err-received-2.result c.from_residual-in_err-received-2.ensures.1 in
    let stops = subst (λ (xs : List MatchField). FrameStops (checked xs (view_received c.in_ok-received.received)) c.in_err-received-2.field-0.0) c.deref-2.ensures.value c.in_err-received-2.ensures.stopped in
    rw (p.1, p.2) (checked_stops c.args.port c.args.text.now c.new-settings.result.items c.add_words.new.settings.items (view_received c.in_ok-received.received) c.in_err-received-2.field-0.0 c.new-settings.ensures.items c.in_ok-add_words.ensures.added
    (c.in_ok-received.ensures.received ∙ ap (received_frame c.args.port) c.deref.ensures.value) stops)

pub returns-clause-read : goal.returns-clause-read
returns-clause-read c =
    IfOk-weaker c.with_ttl_words.result _ _
    (λ r e. frame_is c.args.port c.args.text.now c.new-settings.result.items c.add_words.new.settings.items (view_received c.in_ok-received.received) (view_received c.in_ok-received-2.received) c.new-settings.ensures.items c.in_ok-add_words.ensures.added
    (c.in_ok-received.ensures.received ∙ ap (received_frame c.args.port) c.deref.ensures.value)
    (ap (λ (xs : List MatchField). checked xs (view_received c.in_ok-received.received)) (sym c.deref-2.ensures.value) ∙ c.in_ok-received-2.ensures.read) ∙ e)
    c.with_ttl_words.ensures.read

pub returns-clause-stopped : goal.returns-clause-stopped
returns-clause-stopped c =
    err_weaker c.with_ttl_words.result _ _
    (λ stop h. stops_same _ _ stop (frame_is c.args.port c.args.text.now c.new-settings.result.items c.add_words.new.settings.items (view_received c.in_ok-received.received) (view_received c.in_ok-received-2.received) c.new-settings.ensures.items c.in_ok-add_words.ensures.added
    (c.in_ok-received.ensures.received ∙ ap (received_frame c.args.port) c.deref.ensures.value)
    (ap (λ (xs : List MatchField). checked xs (view_received c.in_ok-received.received)) (sym c.deref-2.ensures.value) ∙ c.in_ok-received-2.ensures.read)) h)
    c.with_ttl_words.ensures.stopped
