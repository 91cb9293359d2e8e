use Rattle.std.proofs.{Common.ℕ, lemmas.Result.IfOk-weaker}
use Rattle.of_datapath.specs.{Datapath.world_of, Numbers.forwarding_of}
use Rattle.of_symbolic_run.specs.declared.finding.FrameFound.TheVariants.{Empty, Frame, Undecided}
use Rattle.of_symbolic_run.specs.FrameSets.{FindsFrame}
use Rattle.of_diff.{specs.Shown.TriedIs, proofs.EndedLemmas.ingress_fits, proofs.EndedLemmas.same_receiving}
use Rattle.of_diff.proofs.ending.try_frame.Goals as goal

pub returns-in-Frame : goal.returns-in-Frame
returns-in-Frame g c =
    let w = world_of (forwarding_of c.args.first.now) in
    let v = world_of (forwarding_of c.args.second.now) in
    IfOk-weaker c.run_both.result (λ tried. (steps : ℕ) → TriedIs c.args.compared w v steps c.args.frames.now tried) (TriedIs c.args.compared w v c.args.steps c.args.frames.now) (λ tried h. h c.args.steps) c.run_both.ensures

pub returns-in-Empty : goal.returns-in-Empty
returns-in-Empty g c =
    let empty : FindsFrame c.args.frames.now c.args.steps Empty = rw c.in-Empty.is at c.in_ok-frame.ensures in
    empty

pub returns-in-Undecided : goal.returns-in-Undecided
returns-in-Undecided g c =
    let none : FindsFrame c.args.frames.now c.args.steps Undecided = rw c.in-Undecided.is at c.in_ok-frame.ensures in
    none

pub run_both-requires-clause-second : goal.run_both-requires-clause-second
run_both-requires-clause-second g c =
    let found : FindsFrame c.args.frames.now c.args.steps (Frame c.in-Frame.frame c.in-Frame.in_port) = rw c.in-Frame.is at c.in_ok-frame.ensures in
    same_receiving (world_of (forwarding_of c.args.first.now)).ports (world_of (forwarding_of c.args.second.now)).ports c.in-Frame.in_port c.requires.ports
    (c.requires.received c.in-Frame.frame.items c.in-Frame.in_port (ingress_fits c.in-Frame.in_port found.3) found.2)
