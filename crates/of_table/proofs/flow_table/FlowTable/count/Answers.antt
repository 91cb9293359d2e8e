use Rattle.std.proofs.Common.{drop, ◌≡◌, ℕ, List, sym, ap, ◌∙◌, ◌%◌, ◌^◌, ◌+◌, arith}
use Rattle.of_table.{specs.Table.FlowEntry, specs.Table.counted_at, specs.Entries.flows_of, specs.Entries.place_of, proofs.NumberLemmas.number_some, proofs.NumberLemmas.number_none}
use Rattle.of_table.proofs.{CountLemmas.counted_none, Unlike.unlike_rows}
use Rattle.of_table.proofs.flow_table.FlowTable.count.Goals as goal

pub returns-in-None-clause-table : goal.returns-in-None-clause-table
returns-in-None-clause-table g c =
    let es = drop c.self.inside.replaced c.self.inside.entries.items in
    let same : flows_of es ≡ counted_at c.args.now (place_of c.args.number es) c.args.bytes (flows_of es) = counted_none c.args.now c.args.number c.args.bytes es (number_none c.args.number es (rw (← c.self.view_is) at (sym c.in-None.ensures))) in
    rw (← c.self.view_is) (ap (λ (flows : List FlowEntry). record { lookups = c.self.inside.lookups; matched = (c.self.inside.matched + 1) % 2 ^ 64; flows = flows }) same)

pub returns-clause-table : goal.returns-clause-table
returns-clause-table g c =
    let es = drop c.self.inside.replaced c.self.inside.entries.items in
    let s = number_some c.args.number es c.in-Some.place (rw (← c.self.view_is) at (sym c.in-Some.ensures)) in
    let counts : flows_of (drop c.self.inside.replaced c.count_at-due.new.entries.items) ≡ counted_at c.args.now (place_of c.args.number es) c.args.bytes (flows_of es) = c.count_at-due.ensures.flows ∙ ap (λ (k : ℕ). counted_at c.args.now k c.args.bytes (flows_of es)) s.0 in
    rw (← c.self.view_is) (ap (λ (flows : List FlowEntry). record { lookups = c.self.inside.lookups; matched = (c.self.inside.matched + 1) % 2 ^ 64; flows = flows }) counts)

pub invariant_of-self : goal.invariant_of-self
invariant_of-self g c = (
  c.self.invariant.0 ∙ sym c.count_at-due.ensures.rows,
  λ at lt. c.count_at-due.ensures.due at (omega (arith, lt, c.min-self-inside.ensures)) (c.self.invariant.1 at (omega (arith, lt, c.min-self-inside.ensures))),
  omega (arith, c.count_at-due.ensures.length, c.self.invariant.2),
  unlike_rows (drop c.self.inside.replaced c.self.inside.entries.items) (drop c.self.inside.replaced c.count_at-due.new.entries.items) c.count_at-due.ensures.rows c.self.invariant.3,
)
