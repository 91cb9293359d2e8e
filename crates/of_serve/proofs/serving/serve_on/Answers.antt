use Rattle.std.proofs.Common.{◌∙◌, ◌+◌, sym}
use Rattle.of_replay.specs.Stepping.{ended_so}
use Rattle.of_serve.proofs.Steps.{serves_nothing, serves_from, done_counts, read_faults, write_faults}
use Rattle.of_serve.specs.{Turns.standing, Serves.tells}
use Rattle.of_serve.proofs.serving.serve_on.Goals as goal

pub returns-in_default-clause-serves : goal.returns-in_default-clause-serves
returns-in_default-clause-serves g c = serves_nothing c.args.turns (standing c.args.switch c.args.rows.items) (tells (g.P.Peers.came c.args.peers.now) (g.C.Clock.times c.args.clock.now) (g.P.Peers.took c.args.peers.now) (g.P.Peers.write_failures c.args.peers.now) (g.K.Sink.taken c.args.out.now))

pub returns-clause-serves : goal.returns-clause-serves
returns-clause-serves g c =
    let n = c.take_turns.new in
    serves_from (ended_so c.take_turns.result) c.ended_by-ended.result c.args.turns c.new-gathering.result c.new-rows.result c.args.rows.items c.args.switch n.gathering.state c.into_switch.result
    (tells (g.P.Peers.came c.args.peers.now) (g.C.Clock.times c.args.clock.now) (g.P.Peers.took c.args.peers.now) (g.P.Peers.write_failures c.args.peers.now) (g.K.Sink.taken c.args.out.now))
    (tells (g.P.Peers.came n.peers) (g.C.Clock.times n.clock) (g.P.Peers.took n.peers) (g.P.Peers.write_failures n.peers) (g.K.Sink.taken n.out))
    c.ended_by-ended.ensures c.new-gathering.ensures c.new-rows.ensures c.into_switch.ensures c.take_turns.ensures.serves

pub returns-clause-done : goal.returns-clause-done
returns-clause-done g c = λ d.
    let n = c.take_turns.new.peers in
    done_counts c.take_turns.result (g.P.Peers.accepts n + g.P.Peers.reads n) c.args.turns c.take_turns.ensures.done (sym c.ended_by-ended.ensures ∙ d)

pub returns-clause-read_fault : goal.returns-clause-read_fault
returns-clause-read_fault g c = rw c.ended_by-ended.ensures (read_faults c.take_turns.result (g.P.Peers.accept_failures c.take_turns.new.peers) c.take_turns.ensures.failures)

pub returns-clause-write_fault : goal.returns-clause-write_fault
returns-clause-write_fault g c = rw c.ended_by-ended.ensures (write_faults c.take_turns.result (g.K.Sink.failures c.take_turns.new.out) c.take_turns.ensures.writes)
