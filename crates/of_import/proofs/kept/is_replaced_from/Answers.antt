use Rattle.std.proofs.Common.{◌∙◌, sym}
use Rattle.of_text.specs.Views.{view}
use Rattle.of_import.{specs.declared.parsed_lines.FlowLine.FlowLine, specs.Kept.replaces, proofs.DigestLemmas.any_at}
use Rattle.of_import.proofs.kept.is_replaced_from.Goals as goal

pub returns-then-replaces_at : goal.returns-then-replaces_at
returns-then-replaces_at c = sym (any_at (λ (g : FlowLine). replaces (view g.flow) (view c.args.flow.now)) c.args.later.now c.args.place (sym c.replaces_at.ensures ∙ c.if-replaces_at.true))
