use Rattle.std.proofs.Common.{rules}
use Rattle.of_serve.{specs.Turns.standing, specs.Serves.tells, proofs.Steps.NotRead, proofs.Steps.turn_goes, proofs.Steps.turn_stops, proofs.Steps.turn_writes}
use Rattle.of_serve.proofs.turns.turn.Goals as goal

pub returns-clause-goes : goal.returns-clause-goes
returns-clause-goes g c =
    let not : NotRead c.input-learned.result = (λ e. search rules) in
    let i = c.input-learned in
    let a = c.answer in
    turn_goes i.result (standing c.args.gathering.now.state c.args.rows.now) i.new.gathering a.new.gathering c.clear.new.self i.new.rows
    (tells (g.P.Peers.came c.args.peers.now) (g.C.Clock.times c.args.clock.now) (g.P.Peers.took c.args.peers.now) (g.P.Peers.write_failures c.args.peers.now) (g.K.Sink.taken c.args.out.now))
    (g.P.Peers.came i.new.peers) (g.P.Peers.came a.new.peers) (g.C.Clock.times i.new.clock) (g.P.Peers.took i.new.peers) (g.P.Peers.took a.new.peers) (g.P.Peers.write_failures i.new.peers) (g.P.Peers.write_failures a.new.peers) (g.K.Sink.taken c.args.out.now) (g.K.Sink.taken c.write_all.new.writer)
    not (i.ensures.inputs (g.K.Sink.taken c.args.out.now)) a.ensures.came a.ensures.answered (rw c.lines.ensures at c.if-not-write_all.ensures.all) c.clear.ensures

pub returns-then-not-write_all-clause-goes : goal.returns-then-not-write_all-clause-goes
returns-then-not-write_all-clause-goes g c =
    let not : NotRead c.input-learned.result = (λ e. search rules) in
    let i = c.input-learned in
    let a = c.answer in
    turn_stops i.result (standing c.args.gathering.now.state c.args.rows.now) i.new.gathering a.new.gathering i.new.rows i.new.rows
    (tells (g.P.Peers.came c.args.peers.now) (g.C.Clock.times c.args.clock.now) (g.P.Peers.took c.args.peers.now) (g.P.Peers.write_failures c.args.peers.now) (g.K.Sink.taken c.args.out.now))
    (g.P.Peers.came i.new.peers) (g.P.Peers.came a.new.peers) (g.C.Clock.times i.new.clock) (g.P.Peers.took i.new.peers) (g.P.Peers.took a.new.peers) (g.P.Peers.write_failures i.new.peers) (g.P.Peers.write_failures a.new.peers) (g.K.Sink.taken c.args.out.now) (g.K.Sink.taken c.write_all.new.writer)
    not (i.ensures.inputs (g.K.Sink.taken c.args.out.now)) a.ensures.came a.ensures.answered (rw c.lines.ensures at c.if-not-write_all.ensures.front)

pub returns-clause-writes : goal.returns-clause-writes
returns-clause-writes g c =
    let i = c.input-learned in
    turn_writes i.result (standing c.args.gathering.now.state c.args.rows.now) i.new.gathering i.new.rows
    (tells (g.P.Peers.came c.args.peers.now) (g.C.Clock.times c.args.clock.now) (g.P.Peers.took c.args.peers.now) (g.P.Peers.write_failures c.args.peers.now) (g.K.Sink.taken c.args.out.now))
    (tells (g.P.Peers.came i.new.peers) (g.C.Clock.times i.new.clock) (g.P.Peers.took i.new.peers) (g.P.Peers.write_failures i.new.peers) (g.K.Sink.taken c.args.out.now)) _ (i.ensures.inputs (g.K.Sink.taken c.args.out.now)) c.if-not-write_all.ensures.well
