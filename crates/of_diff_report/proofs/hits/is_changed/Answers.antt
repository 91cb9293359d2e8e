use Rattle.std.proofs.Common.{◌∙◌, ap, sym}
use Rattle.of_datapath.specs.Datapath.{Forwarding}
use Rattle.of_diff.specs.Changing.{entries_in}
use Rattle.of_diff_report.proofs.ChangedLemmas.{kept_if}
use Rattle.of_diff_report.proofs.hits.is_changed.Goals as goal

pub returns-in-Some : goal.returns-in-Some
returns-in-Some g c =
    let table = c.args.hit.table in
    let own = c.entries.ensures.flows ∙ ap (λ (f : Forwarding). entries_in f table) (sym c.datapath.ensures) in
    let other = c.entries-in-Some.ensures.flows ∙ ap (λ (f : Forwarding). entries_in f table) (sym c.datapath-in-Some.ensures) in
    kept_if c.args.own.now.core.forwarding c.args.other.now.core.forwarding c.args.hit c.entries.result c.entries-in-Some.result own other
    c.in-Some.entry.now (sym c.in-Some.ensures) c.if-hit-ge-TABLES.false c.has_such_entry.result c.has_such_entry.ensures
