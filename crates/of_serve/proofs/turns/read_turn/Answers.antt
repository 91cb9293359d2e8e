use Rattle.std.proofs.Common.{◌∷◌, []}
use Rattle.of_switch.specs.declared.event.Event.TheVariants.{Moment}
use Rattle.of_serve.{specs.Turns.due, proofs.CutLemmas.cut_before, proofs.CutLemmas.cut_later, proofs.CutLemmas.on_err, proofs.Steps.read_told, proofs.Steps.read_cuts, proofs.Steps.not_read}
use Rattle.of_serve.proofs.turns.read_turn.Goals as goal

pub returns-in_err-play-clause-cuts : goal.returns-in_err-play-clause-cuts
returns-in_err-play-clause-cuts g c =
    let n = c.now-now in
    on_err c.from_residual.result _
    (not_read c.args.gathering.now c.play.new.self c.args.rows.now (g.P.Peers.came c.args.peers.now) (g.C.Clock.times c.args.clock.now) (g.C.Clock.times n.new.self) n.result n.ensures.times
    (cut_before (Moment n.result ∷ []) (due n.result c.args.rows.now) c.args.gathering.now c.play.new.self c.in_err-play.ensures.err))

pub returns-in_err-due-clause-cuts : goal.returns-in_err-due-clause-cuts
returns-in_err-due-clause-cuts g c =
    let n = c.now-now in
    on_err c.from_residual-in_err-due.result _
    (not_read c.args.gathering.now c.due.new.self c.args.rows.now (g.P.Peers.came c.args.peers.now) (g.C.Clock.times c.args.clock.now) (g.C.Clock.times n.new.self) n.result n.ensures.times
    (cut_later (Moment n.result ∷ []) (due n.result c.args.rows.now) c.args.gathering.now c.play.new.self c.due.new.self c.in_ok-play.ensures.ok c.in_err-due.ensures.err))

pub returns-clause-cuts : goal.returns-clause-cuts
returns-clause-cuts g c =
    read_cuts c.listen.result c.args.gathering.now c.play.new.self c.due.new.self c.listen.new.gathering c.args.rows.now (g.P.Peers.came c.args.peers.now) (g.P.Peers.came c.listen.new.peers)
    (g.C.Clock.times c.args.clock.now) (g.C.Clock.times c.now-now.new.self) c.now-now.result c.in_ok-play.ensures.ok c.in_ok-due.ensures.gathered c.now-now.ensures.times c.listen.ensures.hears

pub returns-clause-reads : goal.returns-clause-reads
returns-clause-reads g c =
    read_told c.listen.result c.args.gathering.now c.play.new.self c.due.new.self c.listen.new.gathering c.args.rows.now c.due.new.rows (g.P.Peers.came c.args.peers.now) (g.P.Peers.came c.listen.new.peers)
    (g.C.Clock.times c.args.clock.now) (g.C.Clock.times c.now-now.new.self) c.now-now.result c.in_ok-play.ensures.ok c.in_ok-due.ensures.gathered c.in_ok-due.ensures.rest c.now-now.ensures.times c.listen.ensures.hears
