use Rattle.std.proofs.Common.{refl, ap, ◌∙◌, ◌++◌, ◌∷◌, []}
use Rattle.of_symbolic_run.{specs.declared.state.Work.TheVariants.Lookup, proofs.StepLemmas.goes}
use Rattle.of_symbolic_run.proofs.state.SymbolicTask.go_to.Goals as goal

pub returns : goal.returns
returns c emitted = goes c.args.self.now (record { packet = c.args.self.now.packet; work = c.push.new.self }) emitted c.args.table c.requires refl (c.in_ok-push.ensures.items ∙ ap (λ l. l ++ Lookup c.args.table ∷ []) c.clear.ensures.items)
