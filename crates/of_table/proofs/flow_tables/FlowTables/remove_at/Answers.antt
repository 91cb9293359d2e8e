use Rattle.std.proofs.Common.{◌≡◌, ◌∙◌, List, length, arith, ap}
use Rattle.of_table.{specs.Entries.Numbered, specs.Tables.each_from, specs.Tables.kept_table, proofs.Replaced.written}
use Rattle.of_table.proofs.flow_tables.FlowTables.remove_at.Goals as goal

pub returns : goal.returns
returns g c =
    let ns = c.self.inside.tables.items in
    let tables : c.remove_all.new.tables ≡ each_from (kept_table c.args.cause.now) 0 ns = c.remove_all.ensures.tables ∙ ap (λ (ts : List Numbered). each_from (kept_table c.args.cause.now) 0 ts) c.deref_mut.ensures.value in
    rw (← c.self.view_is, written c.remove_all.new.tables ns c.self.inside.tables.len (omega arith) (omega arith))
    (λ i. record { tables = tables i; latest = c.args.latest })

pub invariant_of-self : goal.invariant_of-self
invariant_of-self g c =
    rw (written c.remove_all.new.tables c.self.inside.tables.items c.self.inside.tables.len (omega arith) (omega arith)) (
      c.remove_all.ensures.length ∙ ap length c.deref_mut.ensures.value ∙ c.self.invariant.0,
      c.remove_all.ensures.sound (rw c.deref_mut.ensures.value c.self.invariant.1),
    )
