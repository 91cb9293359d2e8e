use Rattle.std.proofs.Common.{◌≡◌, ◌∙◌, List, drop, map, ap, arith}
use Rattle.of_table.{specs.Table.FlowEntry, specs.Entries.flows_of, specs.Sound.entry_key, specs.Sound.are_unlike, proofs.CopiedLemmas.copies_stay}
use Rattle.of_table.proofs.flow_table.FlowTable.copy.Goals as goal

pub invariant_of-result : goal.invariant_of-result
invariant_of-result g c =
    let es = drop c.self.inside.replaced c.self.inside.entries.items in
    let copies = c.in_ok-entries.entries.items in
    let same : flows_of copies ≡ flows_of es = rw (← c.self.view_is) at (c.in_ok-entries.ensures.entries ∙ ap flows_of c.entries.ensures) in (
      c.in_ok-entries.ensures.rows,
      copies_stay c.self.inside.due es copies same c.self.invariant.1,
      omega arith,
      ap (λ (fs : List FlowEntry). are_unlike (map entry_key fs)) same ∙ c.self.invariant.3,
    )
