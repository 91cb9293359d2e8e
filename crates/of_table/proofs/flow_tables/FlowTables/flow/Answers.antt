use Rattle.std.proofs.Common.{◌≡◌, ◌<◌, length, sym, subst, true, arith}
use Rattle.std.specs.Prelude.{slice_index_or, Some}
use Rattle.of_table.specs.Entries.{Numbered, no_entries, flows_of, is_entry_there, place_of}
use Rattle.of_table.{specs.Table.flow_at, proofs.NumberLemmas.flow_at_place, proofs.NumberLemmas.there_not_none, proofs.TablesLemmas.table_is}
use Rattle.of_table.proofs.flow_tables.FlowTables.flow.Goals as goal

pub unreachable-requires : goal.unreachable-requires
unreachable-requires g c =
    let ns = c.self.inside.tables.items in
    let within : c.args.table < length ns = omega (arith, c.requires.table, c.self.invariant.0) in
    let old : c.index.result.now ≡ slice_index_or ns c.args.table no_entries = table_is ns c.args.table c.index.result.now _ within c.index.ensures in
    let there : is_entry_there c.args.number c.index.result.now.entries ≡ true = rw old (rw (← c.self.view_is) at c.requires.number) in
    there_not_none c.args.number c.index.result.now.entries there (sym (rw c.in-None.is at c.entry.ensures))

pub returns : goal.returns
returns g c =
    let ns = c.self.inside.tables.items in
    let within : c.args.table < length ns = omega (arith, c.requires.table, c.self.invariant.0) in
    let old : c.index.result.now ≡ slice_index_or ns c.args.table no_entries = table_is ns c.args.table c.index.result.now _ within c.index.ensures in
    rw (← c.self.view_is)
    (subst (λ (t : Numbered). flow_at (place_of c.args.number t.entries) (flows_of t.entries) ≡ Some c.in-Some.entry.now.flow) old (flow_at_place c.args.number c.index.result.now.entries c.in-Some.entry.now (sym c.in-Some.ensures)))
