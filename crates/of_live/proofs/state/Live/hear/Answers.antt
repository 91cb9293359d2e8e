use Rattle.std.proofs.Common.{subst, ℕ}
use Rattle.of_live.{specs.Inputs.came_of, specs.Working.HandlesMessages, proofs.Messages.begun_as, proofs.Messages.lost_as, proofs.Messages.hears_on}
use Rattle.of_live.proofs.state.Live.hear.Goals as goal

pub returns-clause-hears : goal.returns-clause-hears
returns-clause-hears g c =
    let buffer = c.args.buffer.now in
    let came = came_of c.args.input.now buffer in
    let l = c.args.self.now in
    let opens = c.is_opened.ensures buffer in
    let keeps = c.args.keeps in
    hears_on came keeps c.asks-asks.result l c.begin.new.self c.take.new.self c.answer.new.self c.handle_messages.new.self c.begin.new.work c.take.new.work c.handle_messages.new.work
    (begun_as c.is_opened.result came l c.begin.new.self opens c.in_ok-begin.ensures.live)
    (rw c.requires.empty at c.in_ok-begin.ensures.reports)
    (lost_as c.is_opened.result came keeps l c.begin.new.work.text opens (rw c.requires.empty at c.in_ok-begin.ensures.text))
    (c.asks-asks.ensures buffer) c.in_ok-take.ensures.does c.in_ok-take.ensures.live c.in_ok-answer.ensures
    (subst (λ (n : ℕ). HandlesMessages n keeps c.answer.new.self c.handle_messages.new.self c.take.new.work c.handle_messages.new.work) (c.most_handled.ensures buffer) c.in_ok-handle_messages.ensures)
