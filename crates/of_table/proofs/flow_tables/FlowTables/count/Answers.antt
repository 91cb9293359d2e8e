use Rattle.of_table.specs.{Table.matched_at, Entries.Numbered, Entries.no_entries, Entries.table_of, Entries.place_of}
use Rattle.of_table.proofs.{Soundness.tables_sound, Soundness.matched_sound, TablesLemmas.table_is, TablesLemmas.tables_set, TablesLemmas.numbers_set}
use Rattle.std.proofs.Common.{◌≡◌, ℕ, ◌<◌, ◌∙◌, length, arith, ap}
use Rattle.std.specs.Prelude.{slice_index_or}
use Rattle.of_table.proofs.flow_tables.FlowTables.count.Goals as goal

pub returns-clause-tables : goal.returns-clause-tables
returns-clause-tables g c =
    let ns = c.self.inside.tables.items in
    let within : c.args.table < length ns = omega (arith, c.requires, c.self.invariant.0) in
    let old : c.index_mut.result.now ≡ slice_index_or ns c.args.table no_entries = table_is ns c.args.table c.index_mut.result.now _ within c.index_mut.ensures.value in
    let place : ℕ = place_of c.args.number (slice_index_or ns c.args.table no_entries).entries in
    let counted : table_of c.count.new.self ≡ matched_at c.self.inside.latest (place_of c.args.number (slice_index_or ns c.args.table no_entries).entries) c.args.bytes (table_of c.index_mut.result.now) =
    c.count.ensures.table ∙ ap (λ (t : Numbered). matched_at c.self.inside.latest (place_of c.args.number t.entries) c.args.bytes (table_of c.index_mut.result.now)) old in
    rw (← c.self.view_is) (tables_set ns c.args.table c.self.inside.latest c.index_mut.result.now c.count.new.self _ (matched_at c.self.inside.latest place c.args.bytes) within c.index_mut.ensures.value counted)

pub returns-clause-numbers : goal.returns-clause-numbers
returns-clause-numbers g c =
    let ns = c.self.inside.tables.items in
    let within : c.args.table < length ns = omega (arith, c.requires, c.self.invariant.0) in
    rw (← c.self.view_is) (numbers_set ns c.args.table c.self.inside.latest c.index_mut.result.now c.count.new.self _ within c.index_mut.ensures.value c.count.ensures.numbers)

pub invariant_of-self : goal.invariant_of-self
invariant_of-self g c =
    let within : c.args.table < length c.self.inside.tables.items = omega (arith, c.requires, c.self.invariant.0) in
    tables_sound c.args.table c.self.inside.tables.items c.index_mut.result.now c.count.new.self _ c.self.invariant within c.index_mut.ensures.value (matched_sound c.args.table c.self.inside.latest _ c.args.bytes c.index_mut.result.now c.count.new.self c.count.ensures.table)
