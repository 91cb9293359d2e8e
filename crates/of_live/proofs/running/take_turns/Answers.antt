use Rattle.std.proofs.{Common.◌∙◌, Common.refl, Common.arith, lemmas.Result.err_from_is_err_and}
use Rattle.of_live.proofs.Ending.{so_far_begun, so_far_more, lives_all, lives_until}
use Rattle.of_live.proofs.running.take_turns.Goals as goal

pub loop-init : goal.loop-init
loop-init g c = record {
  so_far = so_far_begun (g.N.Network.keeps c.args.network.now) c.args.live.now (g.N.Network.told c.args.network.now);
  keeps = refl;
  room = c.requires.room;
}

pub loop-preserved : goal.loop-preserved
loop-preserved g c =
    let i = c.loop.invariant in
    record {
      so_far = so_far_more c.loop.counter (g.N.Network.keeps c.args.network.now) (g.N.Network.keeps c.loop.network) c.args.live.now c.loop.live c.turn.new.self
          (g.N.Network.told c.args.network.now) (g.N.Network.told c.loop.network) (g.N.Network.told c.turn.new.network) i.so_far i.keeps c.in_ok-turn.ensures.goes;
      keeps = c.in_ok-turn.ensures.keeps ∙ i.keeps;
      room = c.in_ok-turn.ensures.room;
    }

pub returns-in_err-turn : goal.returns-in_err-turn
returns-in_err-turn g c =
    let p = err_from_is_err_and c.from_residual.result c.from_residual.ensures.1 in
    let i = c.loop.invariant in
    rw (p.1, p.2) (lives_until c.in_err-turn.field-0.0 c.loop.counter c.args.turns (g.N.Network.keeps c.args.network.now) (g.N.Network.keeps c.loop.network) c.args.live.now c.loop.live c.turn.new.self
    (g.N.Network.told c.args.network.now) (g.N.Network.told c.loop.network) (g.N.Network.told c.turn.new.network) i.so_far c.loop-test.true i.keeps c.in_err-turn.ensures.goes)

pub returns : goal.returns
returns g c =
    let l = c.loop in
    lives_all l.counter c.args.turns (g.N.Network.keeps c.args.network.now) c.args.live.now l.live (g.N.Network.told c.args.network.now) (g.N.Network.told l.network) l.invariant.so_far
    (omega (arith, l.auto, c.loop-test))
