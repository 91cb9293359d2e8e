use Rattle.std.proofs.Common.{subst, refl, ◌∷◌, []}
use Rattle.of_switch.specs.declared.event.Event.TheVariants.{Chunk}
use Rattle.of_serve.{specs.Turns.Gathered, specs.Gathering.CutIn, proofs.CutLemmas.holding, proofs.CutLemmas.not_fed, proofs.CutLemmas.take_cut}
use Rattle.of_serve.proofs.gathering.Gathering.take.Goals as goal

pub returns-in_err-feed-clause-memory : goal.returns-in_err-feed-clause-memory
returns-in_err-feed-clause-memory g c = λ e.
    let s = c.self.inside in
    let now = holding c.feed.new.self s.answers.items s.lines.items in
    subst (λ (x : Gathered). CutIn (Chunk c.args.chunk.now ∷ []) x now) c.self.view_is (not_fed c.args.chunk.now _ (holding s.switch s.answers.items s.lines.items) now c.in_err-feed.ensures refl)

pub returns-clause-memory : goal.returns-clause-memory
returns-clause-memory g c = λ e.
    let s = c.self.inside in
    subst (λ (x : Gathered). CutIn (Chunk c.args.chunk.now ∷ []) x c.handle_all.new.self) c.self.view_is
    (take_cut c.args.chunk.now c.handle_all.result (holding s.switch s.answers.items s.lines.items) (holding c.feed.new.self s.answers.items s.lines.items) c.handle_all.new.self c.in_ok-feed.ensures (refl, refl) c.handle_all.ensures.err e)
