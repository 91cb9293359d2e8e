use Rattle.std.proofs.Common.{ap, ◌∙◌}
use Rattle.of_symbolic_run.{specs.TimesToLive.known_ttl, specs.TimesToLive.ttl_limit_of, proofs.DecrementLemmas.limit_is}
use Rattle.of_symbolic_run.proofs.state.SymbolicState.ttl_limit.Goals as goal

pub returns : goal.returns
returns c = limit_is c.args.self.now.tasks.items c.index.result.now c.limit.result c.requires c.index.ensures c.as_slice.ensures.rewriting
    (c.limit.ensures ∙ ap ttl_limit_of (c.ttl_after_all.ensures ∙ ap known_ttl c.as_slice.ensures.actions))
