use Rattle.std.proofs.Common.{sym, ap, ◌∙◌, List}
use Rattle.of_table.specs.{declared.entry.Entry.Entry, Entries.flows_of}
use Rattle.of_statistics.{specs.Replies.with_rows, specs.Flows.rows_of_entries, proofs.Walks.entry_put}
use Rattle.of_statistics.proofs.flows.put_entries.Goals as goal

pub loop-entry-preserved : goal.loop-entry-preserved
loop-entry-preserved c =
    entry_put c.args.now c.args.which.now c.args.table c.loop-entry.out c.put_entry.new.out _ c.in-Some.entry.now c.loop-entry.entry-iterator c.next.new.self c.in-Some.ensures.steps c.in_ok-put_entry.ensures c.loop-entry.invariant

pub returns : goal.returns
unfolding with_rows
returns c =
    let none = ap (λ (es : List Entry). with_rows c.loop-entry.out (rows_of_entries c.args.now c.args.which.now c.args.table (flows_of es))) c.in-None.ensures.steps.0 in
    sym none ∙ c.loop-entry.invariant
