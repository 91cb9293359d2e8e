use Rattle.std.proofs.Common.{refl}
use Rattle.of_symbolic_run.proofs.RunLemmas.{begins_at}
use Rattle.of_symbolic_run.proofs.received.received_state.Goals as goal

pub returns-clause-first : goal.returns-clause-first
returns-clause-first c = record {
  tasks = λ frame port. rw (c.in_ok-push-2.ensures.items, c.new-tasks.ensures.items, c.in_ok-push.ensures.items, c.new-work.ensures.items, c.none.ensures, c.none-2.ensures) refl;
  emitted = c.new.ensures.items;
  steps = c.new-2.ensures.items;
}

pub returns-clause-at : goal.returns-clause-at
returns-clause-at c w frame port = begins_at w frame port (record { tasks = c.push-2.new.self; emitted = c.new.result; steps = c.new-2.result })
    (rw (c.in_ok-push-2.ensures.items, c.new-tasks.ensures.items, c.in_ok-push.ensures.items, c.new-work.ensures.items, c.none.ensures, c.none-2.ensures) refl) c.new.ensures.items c.new-2.ensures.items
