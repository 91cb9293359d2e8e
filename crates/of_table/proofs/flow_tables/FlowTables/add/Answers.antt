use Rattle.std.proofs.Common.{◌≡◌, ◌<◌, true, false, set, length, arith, refl, sym, ap, ◌∙◌}
use Rattle.std.{specs.Prelude.nat_le, specs.Prelude.map, specs.Prelude.slice_index_or, proofs.lemmas.Bool.Decides.nat_tests, proofs.Math.ListN.get_or-map}
use Rattle.of_table.specs.{Table.Table, Table.empty_table, Table.add_flow_fault, Entries.no_entries, Entries.table_of, Sound.are_instructions_fit, Tables.NumberedTables}
use Rattle.of_table.proofs.{Soundness.tables_sound, Soundness.ok_added, TablesLemmas.adds_set, TablesLemmas.tables_added, TablesLemmas.table_is}
use Rattle.of_table.proofs.flow_tables.FlowTables.add.Goals as goal

pub returns-clause-fault : goal.returns-clause-fault
returns-clause-fault g c =
    let ns = c.self.inside.tables.items in
    let within : c.args.table < length ns = omega (arith, c.if-table-ge-TABLES.false, c.self.invariant.0) in
    let small : nat_le 16 c.args.table ≡ false = grind (arith, nat_tests, c.if-table-ge-TABLES.false) in
    let there : table_of c.index_mut.result.now ≡ slice_index_or (map table_of ns) c.args.table empty_table = ap table_of (table_is ns c.args.table c.index_mut.result.now _ within c.index_mut.ensures.value) ∙ sym (get_or-map table_of ns c.args.table no_entries) in
    rw (← c.self.view_is, small) (c.add.ensures.fault ∙ ap (λ (t : Table). add_flow_fault c.args.flow t.flows) there)

pub returns-clause-ok : goal.returns-clause-ok
returns-clause-ok g c =
    let ns = c.self.inside.tables.items in
    let within : c.args.table < length ns = omega (arith, c.if-table-ge-TABLES.false, c.self.invariant.0) in
    rw (← c.self.view_is) (adds_set c.add.result c.args.table c.args.flow ns c.self.inside.latest c.index_mut.result.now c.add.new.self _ within c.index_mut.ensures.value c.add.ensures.ok)

pub returns-clause-tables : goal.returns-clause-tables
returns-clause-tables g c =
    let ns = c.self.inside.tables.items in
    let old : NumberedTables = record { tables = ns; latest = c.self.inside.latest } in
    let new : NumberedTables = record { tables = set ns c.args.table c.add.new.self; latest = c.self.inside.latest } in
    let within : c.args.table < length ns = omega (arith, c.if-table-ge-TABLES.false, c.self.invariant.0) in
    rw (← c.self.view_is) (tables_added c.add.result c.args.table c.args.flow old new (adds_set c.add.result c.args.table c.args.flow ns c.self.inside.latest c.index_mut.result.now c.add.new.self _ within c.index_mut.ensures.value c.add.ensures.ok))

pub invariant_of-self : goal.invariant_of-self
invariant_of-self g c =
    let within : c.args.table < length c.self.inside.tables.items = omega (arith, c.if-table-ge-TABLES.false, c.self.invariant.0) in
    let fits : are_instructions_fit c.args.table c.args.flow.instructions ≡ true = rw (c.as_slice.ensures.kept, c.requires.fit c.if-table-ge-TABLES.false) refl in
    tables_sound c.args.table c.self.inside.tables.items c.index_mut.result.now c.add.new.self _ c.self.invariant within c.index_mut.ensures.value
    (λ s. ok_added c.add.result c.args.table c.self.inside.latest c.args.flow c.index_mut.result.now c.add.new.self c.add.ensures.fault c.add.ensures.ok c.add.ensures.err fits (c.requires.checked c.if-table-ge-TABLES.false) s)
