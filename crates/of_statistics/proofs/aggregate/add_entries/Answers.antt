use Rattle.std.proofs.Common.{List, length, ap, sym, ◌∙◌, arith}
use Rattle.std.specs.Prelude.{filter}
use Rattle.of_table.specs.{declared.entry.Entry.Entry, Entries.flows_of, Selecting.selects}
use Rattle.of_statistics.{specs.Adding.plus_all, proofs.Sums.entry_added, proofs.Sums.plus_none}
use Rattle.of_statistics.proofs.aggregate.add_entries.Goals as goal

pub loop-entry-preserved : goal.loop-entry-preserved
loop-entry-preserved c = record {
  totals = entry_added c.args.which.now c.loop-entry.totals c.add_entry.new.totals _ c.in-Some.entry.now c.loop-entry.entry-iterator c.next.new.self c.in-Some.ensures.steps c.add_entry.ensures.totals c.loop-entry.invariant.totals;
  few = omega (arith, c.loop-entry.invariant.few, c.add_entry.ensures.few, ap (λ (es : List Entry). length es) c.in-Some.ensures.steps);
}

pub returns-clause-totals : goal.returns-clause-totals
returns-clause-totals c =
    let none = ap (λ (es : List Entry). plus_all c.loop-entry.totals (filter (selects c.args.which.now) (flows_of es))) c.in-None.ensures.steps.0 ∙ plus_none c.loop-entry.totals in
    sym none ∙ c.loop-entry.invariant.totals
