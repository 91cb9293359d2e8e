use Rattle.std.{specs.Prelude.Option, specs.Prelude.slice_get, specs.List.list_any, proofs.Common.◌∙◌, proofs.Common.sym, proofs.Common.ap}
use Rattle.of_shadowing.specs.{declared.listed_flow.ListedFlow.ListedFlow, Shadows.are_level_flows}
use Rattle.of_shadowing.proofs.ties.is_tied.Goals as goal

pub returns : goal.returns
returns c = c.some_level.ensures ∙ ap (λ (own : Option ListedFlow). list_any (λ j. are_level_flows (slice_get c.args.flows.now j) own) c.args.by.now) (sym c.requires)
