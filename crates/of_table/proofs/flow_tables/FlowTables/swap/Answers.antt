use Rattle.std.proofs.Common.{◌<◌, length, arith, ap}
use Rattle.of_table.{specs.Entries.table_of, proofs.CopiedLemmas.taken_sound, proofs.Soundness.tables_sound, proofs.TablesLemmas.tables_set}
use Rattle.of_table.proofs.flow_tables.FlowTables.swap.Goals as goal

pub returns-clause-tables : goal.returns-clause-tables
returns-clause-tables g c =
    let ns = c.self.inside.tables.items in
    let within : c.copied.inside.table < length ns = omega (arith, c.copied.invariant.0, c.self.invariant.0) in
    rw (← c.self.view_is, ← c.copied.view_is)
    (tables_set ns c.copied.inside.table c.self.inside.latest c.index_mut.result.now c.swap.new.x _ (λ t. table_of c.copied.inside.copy) within c.index_mut.ensures.value (ap table_of c.swap.ensures.x_after))

pub invariant_of-self : goal.invariant_of-self
invariant_of-self g c =
    let within : c.copied.inside.table < length c.self.inside.tables.items = omega (arith, c.copied.invariant.0, c.self.invariant.0) in
    tables_sound c.copied.inside.table c.self.inside.tables.items c.index_mut.result.now c.swap.new.x _ c.self.invariant within c.index_mut.ensures.value (λ s. rw c.swap.ensures.x_after c.copied.invariant.1)

pub invariant_of-copied : goal.invariant_of-copied
invariant_of-copied g c =
    let ns = c.self.inside.tables.items in
    let within : c.copied.inside.table < length ns = omega (arith, c.copied.invariant.0, c.self.invariant.0) in
    (c.copied.invariant.0, rw c.swap.ensures.y_after (taken_sound c.copied.inside.table ns c.index_mut.result.now _ within c.index_mut.ensures.value c.self.invariant.1))
