use Rattle.of_datapath.specs.{Datapath.world_of, Numbers.forwarding_of}
use Rattle.of_symbolic_run.proofs.ReceivedLemmas.{is_received}
use Rattle.of_diff.proofs.ending.run_both.Goals as goal

pub returns-in-None : goal.returns-in-None
returns-in-None g c = λ steps.
    let w = world_of (forwarding_of c.args.first.now) in
    let v = world_of (forwarding_of c.args.second.now) in
    let first = rw c.deref.ensures.value at c.in_ok-left.ensures.items in
    let second = rw c.deref-2.ensures.value at c.in_ok-right.ensures.items in
    record {
      frame = c.args.frame.items;
      port = c.args.in_port;
      within = c.requires.within;
      first = is_received w c.args.frame.items c.args.in_port c.requires.frame_is c.requires.short c.requires.first;
      second = is_received v c.args.frame.items c.args.in_port c.requires.frame_is c.requires.short c.requires.second;
      alike = rw (first, second) at (rw (c.in-None.is, c.deref-3.ensures, c.deref-4.ensures) at c.in_ok-first_difference.ensures.none);
    }

pub returns-in-Some : goal.returns-in-Some
returns-in-Some g c = λ steps.
    let w = world_of (forwarding_of c.args.first.now) in
    let v = world_of (forwarding_of c.args.second.now) in
    record {
      within = c.requires.within;
      received_first = is_received w c.args.frame.items c.args.in_port c.requires.frame_is c.requires.short c.requires.first;
      received_second = is_received v c.args.frame.items c.args.in_port c.requires.frame_is c.requires.short c.requires.second;
      first = rw c.deref.ensures.value at c.in_ok-left.ensures.items;
      second = rw c.deref-2.ensures.value at c.in_ok-right.ensures.items;
      differs = rw (c.in-Some.is, c.deref-3.ensures, c.deref-4.ensures) at c.in_ok-first_difference.ensures.some;
    }
