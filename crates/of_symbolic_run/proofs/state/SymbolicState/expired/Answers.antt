use Rattle.std.proofs.Common.{refl}
use Rattle.of_symbolic_run.proofs.DecrementLemmas.{expired_is}
use Rattle.of_symbolic_run.proofs.state.SymbolicState.expired.Goals as goal

pub returns : goal.returns
returns c = expired_is c.args.self.now c.in_ok-state.state _ c.index.result.now c.index_mut.result.now c.in_ok-packet.packet _ c.requires c.in_ok-state.ensures.same c.index.ensures c.index_mut.ensures.value c.in_ok-packet.ensures refl c.clear.ensures.items refl c.in_ok-push.ensures.items c.in_ok-push-2.ensures.items
