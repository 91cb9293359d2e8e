use Rattle.of_table.{specs.Table.looked, specs.Entries.entry_numbers, proofs.Soundness.tables_sound, proofs.Soundness.same_sound, proofs.TablesLemmas.tables_set, proofs.TablesLemmas.numbers_set}
use Rattle.std.proofs.Common.{◌<◌, length, arith, ap}
use Rattle.of_table.proofs.flow_tables.FlowTables.looked.Goals as goal

pub returns-clause-tables : goal.returns-clause-tables
returns-clause-tables g c =
    let ns = c.self.inside.tables.items in
    let within : c.args.table < length ns = omega (arith, c.requires, c.self.invariant.0) in
    rw (← c.self.view_is) (tables_set ns c.args.table c.self.inside.latest c.index_mut.result.now c.looked.new.self _ looked within c.index_mut.ensures.value c.looked.ensures.table)

pub returns-clause-numbers : goal.returns-clause-numbers
returns-clause-numbers g c =
    let ns = c.self.inside.tables.items in
    let within : c.args.table < length ns = omega (arith, c.requires, c.self.invariant.0) in
    rw (← c.self.view_is) (numbers_set ns c.args.table c.self.inside.latest c.index_mut.result.now c.looked.new.self _ within c.index_mut.ensures.value (ap entry_numbers c.looked.ensures.entries))

pub invariant_of-self : goal.invariant_of-self
invariant_of-self g c =
    let within : c.args.table < length c.self.inside.tables.items = omega (arith, c.requires, c.self.invariant.0) in
    tables_sound c.args.table c.self.inside.tables.items c.index_mut.result.now c.looked.new.self _ c.self.invariant within c.index_mut.ensures.value (same_sound c.args.table c.index_mut.result.now c.looked.new.self c.looked.ensures.entries)
