use Rattle.std.proofs.Common.{ℕ, ◌∙◌, sym, ap}
use Rattle.of_wire.specs.Numbered.{moved_to_end}
use Rattle.of_classifier.specs.Rows.{row_number}
use Rattle.of_table.proofs.AddLemmas.{flow_is, added_again, same_number, row_again, used_again, rows_again}
use Rattle.of_table.{specs.Entries.entry_of, specs.Entries.rows_of, specs.Table.is_same, proofs.PlaceLemmas.position_some, proofs.Unlike.others_left}
use Rattle.of_table.proofs.entries.move_last.Goals as goal

pub returns-clause-used : goal.returns-clause-used
returns-clause-used c =
    let es = c.args.entries.now.items in
    let s = position_some (λ x. is_same c.args.flow (entry_of x)) es c.args.place c.requires.same in
    rw c.replaced_entry-entry.ensures.number (used_again es c.args.place c.remove-old.result s.1 c.remove-old.ensures.value)

pub returns-clause-rows : goal.returns-clause-rows
returns-clause-rows c =
    let es = c.args.entries.now.items in
    let e = c.remove-old.result in
    let f = c.replaced_entry-entry.result in
    let s = position_some (λ x. is_same c.args.flow (entry_of x)) es c.args.place c.requires.same in
    let same = row_again c.args.flow es c.args.place e f c.requires.same c.remove-old.ensures.value c.replaced_entry-entry.ensures.number (flow_is c.args.now c.args.flow f (entry_of e) c.replaced_entry-entry.ensures.entry) in
    rw (c.push_reserved.ensures.items, c.remove-old.ensures.items) (rows_again es c.args.place e f c.requires.distinct s.1 c.remove-old.ensures.value same ∙ ap (λ (n : ℕ). moved_to_end row_number n (rows_of es)) (sym c.replaced_entry-entry.ensures.number))

pub returns-clause-named : goal.returns-clause-named
returns-clause-named c = same_number c.args.flow c.args.entries.now.items c.args.place c.remove-old.result c.replaced_entry-entry.result.number c.requires.same c.remove-old.ensures.value c.replaced_entry-entry.ensures.number

pub returns-clause-entries : goal.returns-clause-entries
returns-clause-entries c =
    let es = c.args.entries.now.items in
    rw (c.push_reserved.ensures.items, c.remove-old.ensures.items)
    (added_again c.args.now c.args.flow es c.args.place c.remove-old.result c.replaced_entry-entry.result c.requires.same c.remove-old.ensures.value (others_left c.args.flow es c.args.place c.requires.unlike c.requires.same) c.replaced_entry-entry.ensures.entry)
