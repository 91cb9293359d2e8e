use Rattle.std.proofs.Common.{◌∙◌, sym}
use Rattle.of_live.{specs.Inputs.came_of, proofs.Turning.goes}
use Rattle.of_live.proofs.state.Live.turn.Goals as goal

pub returns-clause-goes : goal.returns-clause-goes
returns-clause-goes g c =
    let buffer = c.next-input.new.buffer in
    rw (sym c.next-input.ensures.keeps) (goes c.pass.result c.wanted.result (came_of c.next-input.result buffer) (g.N.Network.keeps c.next-input.new.self) c.args.self.now c.pass.new.self
    (g.N.Network.told c.args.network.now) (g.N.Network.told c.next-input.new.self) (g.N.Network.told c.pass.new.network)
    c.wanted.ensures (sym (c.is_fault.ensures buffer) ∙ c.if-is_fault.false) c.next-input.ensures.told c.pass.ensures.passes)
