use Rattle.std.proofs.{Common.◌<◌, Common.length, Common.refl, Common.arith, lemmas.Grind.common_steps}
use Rattle.of_datapath.specs.{Datapath.world_of, Numbers.forwarding_of}
use Rattle.of_paths.proofs.SoFarLemmas.{one_case, one_next}
use Rattle.of_paths.proofs.stepping.step_case.Goals as goal

pub returns-in-Advanced : goal.returns-in-Advanced
returns-in-Advanced g c =
    let w = (world_of (forwarding_of c.args.datapath.now)) in
    let side = rw c.in-Advanced.is at c.in_ok-step_side.ensures in
    let some : 0 < length c.args.case.state.tasks.items = grind (arith, common_steps) in
    rw c.in_ok-one_case-in-Advanced.ensures (one_case w c.args.case _ refl side.0, one_next w c.args.case.state _ (side.1 some))

pub returns : goal.returns
returns g c = (refl, refl, rw c.in-Unknown.is at c.in_ok-step_side.ensures)
