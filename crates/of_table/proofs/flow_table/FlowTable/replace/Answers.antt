use Rattle.std.proofs.Common.{drop, rules, ◌∙◌, ap}
use Rattle.of_table.{specs.declared.selection.Cause.TheVariants.Moment, specs.Deadlines.all_stay, proofs.AddLemmas.with_entries, proofs.DeadlineLemmas.added_none_over, proofs.Unlike.unlike_with}
use Rattle.of_table.proofs.flow_table.FlowTable.replace.Goals as goal

pub returns : goal.returns
returns g c =
    rw (← c.self.view_is)
    (record {
      number = c.put_last-number.result;
      named = c.put_last-number.ensures.named;
      table = ap (with_entries c.self.inside.lookups c.self.inside.matched) c.put_last-number.ensures.entries;
    })

pub invariant_of-self : goal.invariant_of-self
invariant_of-self g c = (
  search rules,
  λ at lt. ap (all_stay (Moment at)) c.put_last-number.ensures.entries
      ∙ added_none_over c.self.inside.due c.flow_deadline.result c.put_last-number.result c.args.now c.args.flow (drop c.self.inside.replaced c.self.inside.entries.items) c.self.invariant.1 c.flow_deadline.ensures at (rw c.min-due.ensures at lt),
  c.put_last-number.ensures.within,
  unlike_with c.put_last-number.result c.args.now c.args.flow (drop c.self.inside.replaced c.self.inside.entries.items) _ c.put_last-number.ensures.entries c.self.invariant.3,
)
