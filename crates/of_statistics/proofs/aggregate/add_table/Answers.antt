use Rattle.std.proofs.Common.{◌≡◌, false, List, [], length, refl, ap, sym, ◌∙◌, arith}
use Rattle.of_table.specs.{declared.entry.Entry.Entry, Tables.is_in, Tables.table_at, Tables.tables_of}
use Rattle.of_statistics.{specs.Adding.asked_of, specs.Adding.plus_all, proofs.Sums.plus_none, proofs.Walks.entries_count}
use Rattle.of_statistics.proofs.aggregate.add_table.Goals as goal

pub add_entries-requires : goal.add_entries-requires
add_entries-requires g c =
    let few = (c.known.ensures.sound c.args.table).few in
    omega (arith, c.requires.few, few, entries_count c.args.table c.args.tables.now, ap (λ (es : List Entry). length es) c.entries.ensures)

pub returns-then-is_in-clause-few : goal.returns-then-is_in-clause-few
returns-then-is_in-clause-few g c =
    let few = (c.known.ensures.sound c.args.table).few in
    omega (arith, c.add_entries.ensures.few, few, entries_count c.args.table c.args.tables.now, ap (λ (es : List Entry). length es) c.entries.ensures)

pub returns-else-is_in-clause-totals : goal.returns-else-is_in-clause-totals
returns-else-is_in-clause-totals g c =
    let not_asked : is_in c.args.which.now.table c.args.table ≡ false = sym c.is_in.ensures ∙ c.if-is_in.false in
    let none : asked_of c.args.which.now c.args.table (table_at c.args.table (tables_of c.args.tables.now)) ≡ [] = rw not_asked refl in
    sym (ap (plus_all c.args.totals.now) none ∙ plus_none c.args.totals.now)
