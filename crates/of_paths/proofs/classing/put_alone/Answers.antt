use Rattle.of_datapath.specs.{Datapath.world_of, Numbers.forwarding_of}
use Rattle.of_symbolic_run.{specs.declared.finding.FrameFound.TheVariants.Empty, specs.declared.finding.FrameFound.TheVariants.Undecided, specs.FrameSets.FindsFrame, proofs.GroupedLemmas.if_ok}
use Rattle.of_paths.proofs.FoundLemmas.{puts_nothing, puts_unfound}
use Rattle.of_paths.proofs.classing.put_alone.Goals as goal

pub returns-in-Frame : goal.returns-in-Frame
returns-in-Frame g c = if_ok c.push_class.result _ _ (λ puts. puts c.args.steps) c.push_class.ensures

pub returns-in-Empty : goal.returns-in-Empty
returns-in-Empty g c =
    let empty : FindsFrame c.args.path.frames c.args.steps Empty = rw c.in-Empty.is at c.in_ok-frame.ensures in
    puts_nothing (world_of (forwarding_of c.args.datapath.now)) c.args.steps c.args.path c.args.found.now empty

pub returns-in-Undecided : goal.returns-in-Undecided
returns-in-Undecided g c =
    let none : FindsFrame c.args.path.frames c.args.steps Undecided = rw c.in-Undecided.is at c.in_ok-frame.ensures in
    if_ok c.push_unfound.result _ _ (puts_unfound (world_of (forwarding_of c.args.datapath.now)) c.args.steps c.args.path c.args.found.now c.push_unfound.new.found none c.push_unfound.ensures.classes) c.push_unfound.ensures.undecided
