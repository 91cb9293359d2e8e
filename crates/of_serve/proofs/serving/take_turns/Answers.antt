use Rattle.std.proofs.{Common.◌∙◌, Common.◌+◌, Common.refl, Common.arith, lemmas.Result.err_from_is_err_and}
use Rattle.of_serve.proofs.Steps.{so_far_begun, so_far_more, is_empty, serves_all, serves_until, counts_on, fails_from}
use Rattle.of_serve.specs.{Turns.standing, Serves.tells}
use Rattle.of_serve.proofs.serving.take_turns.Goals as goal

pub loop-init : goal.loop-init
loop-init g c = record {
  count = omega (arith, c.requires.fresh.0, c.requires.fresh.1);
  accept_failures = c.requires.whole.0;
  write_failures = omega (arith, c.requires.whole.1);
  writes = c.requires.well;
  empty = c.requires.empty;
  so_far = so_far_begun 0 (standing c.args.gathering.now.state c.args.rows.now) c.args.gathering.now c.args.rows.now
      (tells (g.P.Peers.came c.args.peers.now) (g.C.Clock.times c.args.clock.now) (g.P.Peers.took c.args.peers.now) (g.P.Peers.write_failures c.args.peers.now) (g.K.Sink.taken c.args.out.now)) refl c.requires.empty refl;
}

pub loop-preserved : goal.loop-preserved
loop-preserved g c =
    let l = c.loop in
    let n = c.turn.new in
    let t = c.in_ok-turn.ensures in
    let old = tells (g.P.Peers.came c.args.peers.now) (g.C.Clock.times c.args.clock.now) (g.P.Peers.took c.args.peers.now) (g.P.Peers.write_failures c.args.peers.now) (g.K.Sink.taken c.args.out.now) in
    let now = tells (g.P.Peers.came l.peers) (g.C.Clock.times l.clock) (g.P.Peers.took l.peers) (g.P.Peers.write_failures l.peers) (g.K.Sink.taken l.out) in
    let new = tells (g.P.Peers.came n.peers) (g.C.Clock.times n.clock) (g.P.Peers.took n.peers) (g.P.Peers.write_failures n.peers) (g.K.Sink.taken n.out) in
    record {
      count = omega (arith, t.counts, l.invariant.count);
      accept_failures = t.failures ∙ l.invariant.accept_failures;
      write_failures = omega (arith, t.write_failures, l.invariant.write_failures);
      writes = t.writes;
      empty = is_empty n.gathering _ t.goes.handed;
      so_far = so_far_more l.counter (l.counter + 1) (standing c.args.gathering.now.state c.args.rows.now) l.gathering n.gathering l.rows n.rows old now new l.invariant.so_far t.goes refl;
    }

pub returns-in_err-turn-clause-serves : goal.returns-in_err-turn-clause-serves
returns-in_err-turn-clause-serves g c =
    let p = err_from_is_err_and c.from_residual.result c.from_residual.ensures.1 in
    let l = c.loop in
    let n = c.turn.new in
    let old = tells (g.P.Peers.came c.args.peers.now) (g.C.Clock.times c.args.clock.now) (g.P.Peers.took c.args.peers.now) (g.P.Peers.write_failures c.args.peers.now) (g.K.Sink.taken c.args.out.now) in
    let now = tells (g.P.Peers.came l.peers) (g.C.Clock.times l.clock) (g.P.Peers.took l.peers) (g.P.Peers.write_failures l.peers) (g.K.Sink.taken l.out) in
    let new = tells (g.P.Peers.came n.peers) (g.C.Clock.times n.clock) (g.P.Peers.took n.peers) (g.P.Peers.write_failures n.peers) (g.K.Sink.taken n.out) in
    rw (p.1, p.2) (serves_until c.in_err-turn.field-0.0 l.counter c.args.turns (standing c.args.gathering.now.state c.args.rows.now) l.gathering n.gathering l.rows n.rows old now new l.invariant.so_far c.loop-test.true c.in_err-turn.ensures.goes)

pub returns-in_err-turn-clause-most : goal.returns-in_err-turn-clause-most
returns-in_err-turn-clause-most g c =
    let l = c.loop in
    let n = c.turn.new in
    counts_on c.in_err-turn.field-0.0 (g.P.Peers.accepts l.peers + g.P.Peers.reads l.peers) (g.P.Peers.accepts n.peers + g.P.Peers.reads n.peers) c.args.turns l.counter l.invariant.count c.loop-test.true c.in_err-turn.ensures.counts

pub returns-in_err-turn-clause-failures : goal.returns-in_err-turn-clause-failures
returns-in_err-turn-clause-failures g c =
    let p = err_from_is_err_and c.from_residual.result c.from_residual.ensures.1 in
    rw (p.1, p.2) (fails_from c.in_err-turn.field-0.0 (g.P.Peers.accept_failures c.loop.peers) (g.P.Peers.accept_failures c.turn.new.peers) c.loop.invariant.accept_failures c.in_err-turn.ensures.failures)

pub returns-in_err-turn-clause-writes : goal.returns-in_err-turn-clause-writes
returns-in_err-turn-clause-writes g c =
    let p = err_from_is_err_and c.from_residual.result c.from_residual.ensures.1 in
    rw (p.1, p.2) c.in_err-turn.ensures.writes

pub returns-clause-serves : goal.returns-clause-serves
returns-clause-serves g c =
    let l = c.loop in
    serves_all l.counter c.args.turns (standing c.args.gathering.now.state c.args.rows.now) l.gathering l.rows
    (tells (g.P.Peers.came c.args.peers.now) (g.C.Clock.times c.args.clock.now) (g.P.Peers.took c.args.peers.now) (g.P.Peers.write_failures c.args.peers.now) (g.K.Sink.taken c.args.out.now))
    (tells (g.P.Peers.came l.peers) (g.C.Clock.times l.clock) (g.P.Peers.took l.peers) (g.P.Peers.write_failures l.peers) (g.K.Sink.taken l.out)) l.invariant.so_far (omega (arith, l.auto, c.loop-test))
