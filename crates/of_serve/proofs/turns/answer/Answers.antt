use Rattle.of_serve.proofs.Steps.{answered_all, answered_lost}
use Rattle.of_serve.proofs.turns.answer.Goals as goal

pub returns-then-not-write_answers-clause-answered : goal.returns-then-not-write_answers-clause-answered
returns-then-not-write_answers-clause-answered g c =
    let w = c.write_answers in
    let e = c.if-not-write_answers.ensures in
    answered_lost c.args.gathering.now c.lose.new.self _ (g.P.Peers.took c.args.peers.now) (g.P.Peers.took w.new.peers) (g.P.Peers.write_failures c.args.peers.now) (g.P.Peers.write_failures w.new.peers) c.answers.ensures e.takes c.lose.ensures e.failures

pub returns-else-not-write_answers-clause-answered : goal.returns-else-not-write_answers-clause-answered
returns-else-not-write_answers-clause-answered g c =
    let w = c.write_answers in
    let e = c.if-not-write_answers.ensures in
    answered_all c.args.gathering.now _ (g.P.Peers.took c.args.peers.now) (g.P.Peers.took w.new.peers) (g.P.Peers.write_failures c.args.peers.now) (g.P.Peers.write_failures w.new.peers) c.answers.ensures e.takes e.failures
