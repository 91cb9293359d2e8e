use Rattle.std.proofs.Common.{◌<◌, ◌≤◌, ◌∙◌, length, arith, subst, sym, take_all}
use Rattle.of_datapath.specs.{Datapath.world_of, Numbers.forwarding_of}
use Rattle.of_symbolic.proofs.PartLemmas.{contains_index}
use Rattle.of_symbolic_run.specs.PortNumbers.{IsAbsence}
use Rattle.of_symbolic_run.proofs.ReceivedLemmas.{AreWithoutAll, all_received, still_received, without_one_more}
use Rattle.of_symbolic_run.proofs.reception.received_frames.Goals as goal

pub loop-index-init : goal.loop-index-init
loop-index-init g c = record {
  all = λ frame port received. c.in_ok-frames.ensures.all frame port received.frame_is;
  without = λ m none. absurd (omega (arith, none.1));
  inner = c.in_ok-frames.ensures.inner;
}

pub without-requires : goal.without-requires
without-requires g c =
    let absent = c.in_ok-absent.absent in
    let lt : c.loop-index.index < length absent.items = omega (arith, c.loop-index-test.true, c.len-index-end.ensures, absent.ok.0) in
    (c.in_ok-absent.ensures.absences c.index.result.now (contains_index absent.items c.loop-index.index c.index.result.now c.index.ensures lt)).conditions

pub loop-index-preserved : goal.loop-index-preserved
loop-index-preserved g c =
    let absent = c.in_ok-absent.absent in
    let w = world_of (forwarding_of c.args.datapath.now) in
    let lt : c.loop-index.index < length absent.items = omega (arith, c.loop-index-test.true, c.len-index-end.ensures, absent.ok.0) in
    let absence : IsAbsence w.ports c.index.result.now.items = rw (sym c.port_list.ensures) (c.in_ok-absent.ensures.absences c.index.result.now (contains_index absent.items c.loop-index.index c.index.result.now c.index.ensures lt)) in
    record {
      all = still_received w c.index.result.now.items c.loop-index.frames c.in_ok-frames-2.frames absence c.in_ok-frames-2.ensures c.loop-index.invariant.all;
      without = without_one_more absent.items c.loop-index.index c.index.result.now c.index.ensures lt c.loop-index.frames c.in_ok-frames-2.frames c.in_ok-frames-2.ensures c.loop-index.invariant.without;
      inner = c.in_ok-frames-2.ensures.inner ∙ c.loop-index.invariant.inner;
    }

pub returns-clause-all : goal.returns-clause-all
returns-clause-all g c = c.loop-index.invariant.all

pub returns-clause-inner : goal.returns-clause-inner
returns-clause-inner g c = c.loop-index.invariant.inner

pub returns-clause-received : goal.returns-clause-received
returns-clause-received g c =
    let absent = c.in_ok-absent.absent in
    let w = world_of (forwarding_of c.args.datapath.now) in
    let most : length absent.items ≤ c.loop-index.index = omega (arith, c.loop-index-test.false, c.len-index-end.ensures, absent.ok.0) in
    let none = subst (λ l. AreWithoutAll l c.loop-index.frames) (take_all c.loop-index.index absent.items most) c.loop-index.invariant.without in
    all_received w.ports absent.items c.loop-index.frames c.known_world.ensures.rising (rw c.port_list.ensures at c.in_ok-absent.ensures.all) none
