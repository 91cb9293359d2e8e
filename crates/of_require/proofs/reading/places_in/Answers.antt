use Rattle.std.proofs.Common.{◌∙◌, ◌∷◌, [], List, ap, sym}
use Rattle.of_ovs_words.{specs.Words.words_from, proofs.WordLemmas.no_bytes, proofs.WordLemmas.some_bytes}
use Rattle.of_paths.specs.declared.destination.Destination.{Destination}
use Rattle.of_require.proofs.ReadingLemmas.{behind_said, places_are, places_end, places_more, places_stop, pushed_ok, same_stop}
use Rattle.of_require.specs.{Reading.place_named, Refusals.each_said}
use Rattle.of_require.proofs.reading.places_in.Goals as goal

pub loop-rest-preserved : goal.loop-rest-preserved
loop-rest-preserved c =
    let pushed = pushed_ok c.push.result c.push.new.self.items c.loop-rest.places.items (c.in-Ok.to ∷ []) c.push.ensures.items (sym c.is_err.ensures.value ∙ c.if-is_err.false) in
    c.loop-rest.invariant
    ∙ (places_more c.loop-rest.places.items c.loop-rest.rest.now (some_bytes c.loop-rest.rest.now c.is_empty-in-loop-rest.result c.is_empty-in-loop-rest.ensures c.loop-rest-test.true) c.cut_word.result.0.now c.cut_word.result.1.now c.in-Ok.to c.cut_word.ensures.first c.cut_word.ensures.rest c.in-Ok.ensures.is
    ∙ ap (λ (l : List Destination). behind_said l (each_said place_named (words_from 0 c.cut_word.result.1.now))) (sym pushed))

pub returns-in-Err-clause-stopped : goal.returns-in-Err-clause-stopped
returns-in-Err-clause-stopped c =
    let stops = places_stop c.loop-rest.places.items c.loop-rest.rest.now (some_bytes c.loop-rest.rest.now c.is_empty-in-loop-rest.result c.is_empty-in-loop-rest.ensures c.loop-rest-test.true) c.cut_word.result.0.now c.in-Err.stop c.cut_word.ensures.first c.in-Err.ensures.stopped in
    same_stop _ _ c.in-Err.stop (places_are c.args.text.now c.is_empty.result c.is_empty.ensures c.if-is_empty.false _ c.loop-rest.invariant) stops

pub returns-clause-is : goal.returns-clause-is
returns-clause-is c = places_are c.args.text.now c.is_empty.result c.is_empty.ensures c.if-is_empty.false _ (c.loop-rest.invariant ∙ places_end c.loop-rest.places.items c.loop-rest.rest.now (no_bytes c.loop-rest.rest.now c.is_empty-in-loop-rest.result c.is_empty-in-loop-rest.ensures c.loop-rest-test.false))
