use Rattle.std.proofs.Common.{ℕ, List, ◌∙◌, ap}
use Rattle.of_layers.specs.Reading.{layers_of}
use Rattle.of_headers.specs.FieldMap.{field_map}
use Rattle.of_frame_words.{specs.Views.view_received, proofs.WordLemmas.refusal_as, proofs.SaidLemmas.checked_ok, proofs.SaidLemmas.checked_stop}
use Rattle.of_frame_words.proofs.frame.checked.Goals as goal

pub returns-in-None-clause-read : goal.returns-in-None-clause-read
returns-in-None-clause-read c = checked_ok c.args.settings.now (view_received c.args.received) _ (c.key-key.ensures ∙ ap (λ (s : List ℕ). field_map (layers_of s) c.args.received.port 0) c.deref.ensures.value) c.in-None.ensures

pub returns-in-Some-clause-stopped : goal.returns-in-Some-clause-stopped
returns-in-Some-clause-stopped c =
    checked_stop c.args.settings.now (view_received c.args.received) _ c.in-Some.e.now c.refuse.result (c.key-key.ensures ∙ ap (λ (s : List ℕ). field_map (layers_of s) c.args.received.port 0) c.deref.ensures.value) c.in-Some.ensures
    (refusal_as _ _ _ _ c.refuse.result c.text_for.ensures c.why_missed.ensures c.refuse.ensures)
