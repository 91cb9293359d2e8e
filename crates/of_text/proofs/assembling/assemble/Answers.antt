use Rattle.std.proofs.Common.{◌≡◌, ℕ, List, None}
use Rattle.of_text.specs.{Groups.TextGroup, Flows.Flow, Texts.EncodeItems, First.first_refusal, Configs.Configuration, Configs.EncodeConfig, Configs.tables_of_flows}
use Rattle.of_text.specs.Views.{view_flows, view_groups}
use Rattle.of_lines.specs.Lines.{lines_of}
use Rattle.of_text.proofs.assembling.assemble.Goals as goal

encoded_by : (lines : List (List ℕ)) (c : Configuration) (groups : List TextGroup) (flows : List Flow) → c.groups ≡ groups → c.tables ≡ tables_of_flows flows → EncodeItems lines groups flows → first_refusal groups flows ≡ None → EncodeConfig lines c
encoded_by lines c groups flows g t s n = record { flows = flows; encoded = rw g s; stand = rw g n; filled = t }

pub returns-in-Ok-of_items-clause-found : goal.returns-in-Ok-of_items-clause-found
returns-in-Ok-of_items-clause-found c =
    encoded_by (lines_of c.args.text.now) c.in-Ok-of_items.config (view_groups c.in-Ok.items.groups.items) (view_flows c.in-Ok.items.flows.items) c.in-Ok-of_items.ensures.found.0 c.in-Ok-of_items.ensures.found.1 c.in-Ok.ensures.found c.in-Ok-of_items.ensures.stand
