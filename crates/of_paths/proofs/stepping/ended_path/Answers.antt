use Rattle.std.proofs.Common.{refl}
use Rattle.of_datapath.specs.{Datapath.world_of, Numbers.forwarding_of}
use Rattle.of_paths.proofs.SoFarLemmas.{ended_runs}
use Rattle.of_paths.proofs.stepping.ended_path.Goals as goal

pub returns : goal.returns
returns g c = (refl, c.requires, refl, refl, ended_runs (world_of (forwarding_of c.args.datapath.now)) c.args.case c.ended_states_give_runs.ensures.lines c.ended_states_give_runs.ensures.items c.known_world.ensures c.requires)
