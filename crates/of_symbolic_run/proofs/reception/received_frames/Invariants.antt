use Rattle.std.proofs.Common.{◌≡◌, take}
use Rattle.of_datapath.specs.{Datapath.world_of, Numbers.forwarding_of}
use Rattle.of_symbolic_run.proofs.ReceivedLemmas.{AreWithoutAll, HasReceived}
use Rattle.of_symbolic_run.proofs.reception.received_frames.Given as goal

abbrev pub invariant-loop-index : goal.invariant-loop-index
invariant-loop-index g l = record {
  all : HasReceived (world_of (forwarding_of l.datapath)) l.frames;
  without : AreWithoutAll (take l.index l.absent.items) l.frames;
  inner : l.frames.inner ≡ l.inner;
}
