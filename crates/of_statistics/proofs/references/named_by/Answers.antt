use Rattle.std.{specs.Prelude.Some, proofs.Common.rules, proofs.Common.refl, proofs.Common.List, proofs.Common.◌∙◌}
use Rattle.std.proofs.lemmas.Iterator.Consumers.{YieldsList-from_filter, YieldsList-from_first, count_from_yields_List}
use Rattle.of_table.specs.{declared.entry.Entry.Entry, Entries.entry_of, Selecting.names_group}
use Rattle.of_statistics.proofs.Counts.{count_of_filtered}
use Rattle.of_statistics.proofs.references.named_by.Goals as goal

pub returns : goal.returns
returns c =
    let all = YieldsList-from_first (λ x. x.now) (λ (walk : List Entry). walk) c.args.entries c.filter.ensures.source in
    let those = YieldsList-from_filter _ (λ e. names_group (Some c.args.group) (entry_of e)) {f = c.filter.result.p} all refl (λ x b q k. search rules) in
    count_from_yields_List _ c.count.result c.count.ensures.ran those ∙ count_of_filtered (names_group (Some c.args.group)) c.args.entries
