use Rattle.of_switch.specs.State.{start}
use Rattle.of_serve.{specs.Turns.standing, specs.Serves.tells, proofs.Steps.serves_nothing}
use Rattle.of_serve.proofs.serving.serve.Goals as goal

pub returns-in-Err-clause-serves : goal.returns-in-Err-clause-serves
returns-in-Err-clause-serves g c = (
  start c.args.dpid,
  serves_nothing c.args.turns (standing (start c.args.dpid) c.args.rows.items)
      (tells (g.P.Peers.came c.args.peers.now) (g.C.Clock.times c.args.clock.now) (g.P.Peers.took c.args.peers.now) (g.P.Peers.write_failures c.args.peers.now) (g.K.Sink.taken c.args.out.now)),
)
