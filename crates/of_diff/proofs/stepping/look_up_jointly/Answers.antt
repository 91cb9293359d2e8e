use Rattle.of_symbolic_run.proofs.FirstLemmas.{some_lookup}
use Rattle.of_diff.proofs.stepping.look_up_jointly.Goals as goal

pub step_first-requires : goal.step_first-requires
step_first-requires g c = some_lookup c.args.pair.first.tasks.items c.args.table c.requires
