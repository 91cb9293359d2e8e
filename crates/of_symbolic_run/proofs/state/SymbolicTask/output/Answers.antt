use Rattle.std.proofs.Common.{refl, ap, ◌∙◌, ◌++◌, ◌∷◌, []}
use Rattle.of_symbolic_run.specs.declared.state.Emission.TheVariants as emissions
use Rattle.of_symbolic_run.{specs.declared.state.SymbolicPacket.SymbolicPacket, proofs.StepLemmas.outputs}
use Rattle.of_symbolic_run.proofs.state.SymbolicTask.output.Goals as goal

pub returns : goal.returns
returns c = outputs c.args.self.now (record { packet = c.args.self.now.packet; work = c.remove.new.self }) c.args.emitted.now.items c.push.new.self.items c.args.port c.args.max_len c.requires.first c.requires.served
    (c.in_ok-push.ensures.items ∙ ap (λ (p : SymbolicPacket). c.args.emitted.now.items ++ emissions.Output p c.args.port c.args.max_len ∷ []) c.in_ok-packet.ensures) refl c.remove.ensures.items
