use Rattle.of_session.specs.Session.{is_disconnected}
use Rattle.of_serve.proofs.Steps.{inputs_read, inputs_accept, stands, stands_not}
use Rattle.of_serve.proofs.turns.input.Goals as goal

pub returns-then-is_connected-clause-inputs : goal.returns-then-is_connected-clause-inputs
returns-then-is_connected-clause-inputs g c = λ wrote.
    let r = c.read_turn in
    inputs_read r.result c.or_memory.result c.args.gathering.now r.new.gathering c.args.rows.now r.new.rows (g.P.Peers.came c.args.peers.now) (g.P.Peers.came r.new.peers) (g.C.Clock.times c.args.clock.now) (g.C.Clock.times r.new.clock)
    (g.P.Peers.took c.args.peers.now) (g.P.Peers.took r.new.peers) (g.P.Peers.write_failures c.args.peers.now) (g.P.Peers.write_failures r.new.peers) wrote c.or_memory.ensures c.requires.empty
    (stands (is_disconnected c.args.gathering.now.state.connection.phase) c.is_connected.result c.is_connected.ensures c.if-is_connected.true) r.ensures.reads r.ensures.cuts r.ensures.took r.ensures.same.2

pub returns-else-is_connected-clause-inputs : goal.returns-else-is_connected-clause-inputs
returns-else-is_connected-clause-inputs g c = λ wrote.
    let a = c.accept_turn in
    inputs_accept a.result c.args.gathering.now a.new.gathering c.args.rows.now (g.P.Peers.came c.args.peers.now) (g.P.Peers.came a.new.peers) (g.C.Clock.times c.args.clock.now)
    (g.P.Peers.took c.args.peers.now) (g.P.Peers.took a.new.peers) (g.P.Peers.write_failures c.args.peers.now) (g.P.Peers.write_failures a.new.peers) wrote c.requires.empty
    (stands_not (is_disconnected c.args.gathering.now.state.connection.phase) c.is_connected.result c.is_connected.ensures c.if-is_connected.false) a.ensures.same.1 a.ensures.opens
