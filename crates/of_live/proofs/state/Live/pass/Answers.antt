use Rattle.std.proofs.Common.{◌≡◌, ◌∙◌, ap, sym}
use Rattle.of_live.{specs.Live.Live, specs.Inputs.came_of, proofs.Turning.passes_on, proofs.Turning.no_log}
use Rattle.of_live.proofs.state.Live.pass.Goals as goal

pub returns-then-not-log-clause-passes : goal.returns-then-not-log-clause-passes
returns-then-not-log-clause-passes g c =
    let h = c.in-Ok.ensures in
    rw (sym c.is_logged-keeps.ensures) (no_log (came_of c.args.input.now c.args.buffer.now) c.is_logged-keeps.result c.in-Ok.asks c.args.self.now c.hear.new.self c.hear.new.work
    (g.N.Network.told c.args.network.now) (g.N.Network.told c.hear.new.network) (g.N.Network.told c.log.new.network)
    h.told.0 h.told.1 h.told.2 h.hears c.if-not-log.ensures.empty c.if-not-log.ensures.told)

pub returns-clause-passes : goal.returns-clause-passes
returns-clause-passes g c =
    let came = came_of c.args.input.now c.args.buffer.now in
    let h = c.in-Ok.ensures in
    let view : c.self.inside.peers.items ≡ c.hear.new.self.peers = ap (λ (l : Live). l.peers) c.self.view_is in
    rw (sym c.is_logged-keeps.ensures) (passes_on came c.is_logged-keeps.result c.in-Ok.asks c.args.self.now c.hear.new.self c.settle.new.self c.hear.new.work c.deref.result.now
    (g.N.Network.told c.args.network.now) (g.N.Network.told c.hear.new.network) (g.N.Network.told c.log.new.network) (g.N.Network.told c.send.new.network) (g.N.Network.told c.settle.new.network)
    h.told.0 h.told.1 h.told.2 h.hears c.if-not-log.ensures.told (c.deref.ensures.value ∙ view) c.send.ensures.told c.settle.ensures.settles)
