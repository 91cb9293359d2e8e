use Rattle.std.proofs.Common.{refl, ap, ◌∙◌, ◌++◌}
use Rattle.of_symbolic_run.proofs.StepLemmas.{writes}
use Rattle.of_symbolic_run.proofs.state.SymbolicTask.write_into_set.Goals as goal

pub returns : goal.returns
returns c emitted = writes c.args.self.now (record { packet = record c.args.self.now.packet { written = c.write.new.self }; work = c.remove.new.self }) emitted c.args.actions.now c.requires.first refl (c.in_ok-write.ensures.ok ∙ ap (λ l. c.args.self.now.packet.written ++ l) c.as_slice.ensures.actions) refl refl refl refl c.remove.ensures.items
