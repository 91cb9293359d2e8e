use Rattle.std.proofs.Common.{refl}
use Rattle.of_symbolic_run.proofs.DecrementLemmas.{decremented_is}
use Rattle.of_symbolic_run.proofs.state.SymbolicState.decremented.Goals as goal

pub returns : goal.returns
returns c = decremented_is c.args.self.now c.in_ok-state.state _ c.index_mut.result.now c.decrement.new.self c.requires c.in_ok-state.ensures.same c.index_mut.ensures.value c.in_ok-decrement.ensures refl refl c.in_ok-push.ensures.items
