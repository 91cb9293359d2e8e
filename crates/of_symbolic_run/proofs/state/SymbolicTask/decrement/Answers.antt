use Rattle.std.proofs.Common.{refl}
use Rattle.of_actions.specs.Supported.{is_supported}
use Rattle.of_symbolic_run.proofs.state.SymbolicTask.decrement.Goals as goal

pub new-requires : goal.new-requires
unfolding is_supported
new-requires c = refl
