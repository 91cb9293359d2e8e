use Rattle.std.proofs.Common.{Some, None, sym, ◌∙◌, refl}
use Rattle.of_classifier.specs.Winner.{winner_of}
use Rattle.of_cache.proofs.Answering.{answered}
use Rattle.of_cache.proofs.cached.answer_of.Goals as goal

pub returns-in-Some-priority : goal.returns-in-Some-priority
returns-in-Some-priority g c = λ map e.
    let rows = g.L.Lookup.content c.args.lookup.now in
    let n = c.in-Some.number in
    answered rows map n (Some c.in-Some-priority.priority) (winner_of rows map) c.known.ensures refl (sym c.in-Some.is ∙ e) (c.in-Some-priority.ensures)

pub returns-in-None-priority : goal.returns-in-None-priority
returns-in-None-priority g c = λ map e.
    let rows = g.L.Lookup.content c.args.lookup.now in
    let n = c.in-Some.number in
    answered rows map n None (winner_of rows map) c.known.ensures refl (sym c.in-Some.is ∙ e) (c.in-None-priority.ensures)
