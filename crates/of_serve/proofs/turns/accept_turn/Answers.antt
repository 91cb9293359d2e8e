use Rattle.of_serve.proofs.Steps.{opens}
use Rattle.of_serve.proofs.turns.accept_turn.Goals as goal

pub returns-in-Open-clause-opens : goal.returns-in-Open-clause-opens
returns-in-Open-clause-opens g c =
    let a = c.in-Open.ensures in
    opens c.play.result c.or_memory.result c.args.gathering.now c.play.new.self (g.P.Peers.came c.args.peers.now) (g.P.Peers.came c.accept.new.self) (g.P.Peers.took c.args.peers.now) (g.P.Peers.took c.accept.new.self)
    c.or_memory.ensures a.came a.took c.play.ensures.ok c.play.ensures.err
