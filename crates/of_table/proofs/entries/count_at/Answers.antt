use Rattle.std.proofs.Common.{◌≡◌, ◌<◌, ◌-◌, ◌∙◌, length, drop, arith, ap}
use Rattle.std.proofs.{Math.Seq.map-set_same, lemmas.List.drop-set-add, lemmas.List.length-drop}
use Rattle.of_table.specs.Entries.{entry_of, flows_of, rows_of, entry_numbers, classifier_row, entry_number}
use Rattle.of_table.{specs.declared.selection.Cause.TheVariants.Moment, specs.Table.counted_entry, specs.Deadlines.all_stay, specs.declared.entry.Entry.Entry, proofs.CountLemmas.counted-set}
use Rattle.of_table.proofs.{DeadlineLemmas.set_stay, Replaced.at_behind}
use Rattle.of_table.proofs.entries.count_at.Goals as goal

pub returns-clause-flows : goal.returns-clause-flows
returns-clause-flows c =
    let xs = c.args.entries.now.items in
    let r = c.args.replaced in
    let long : length (drop r xs) ≡ length xs - r = length-drop r xs in
    let within : c.args.place < length (drop r xs) = omega (arith, long, c.requires) in
    let there = at_behind xs r c.args.place c.index_mut-entry.result.now c.index_mut-entry.ensures.value in
    rw (c.incremented-entry.ensures, c.incremented-entry-2.ensures)
    (ap flows_of (drop-set-add r xs c.args.place _) ∙ counted-set c.args.now c.args.bytes (drop r xs) c.args.place _ c.index_mut-entry.result.now within (ap (λ (e : Entry). counted_entry c.args.now c.args.bytes (entry_of e)) there))

pub returns-clause-numbers : goal.returns-clause-numbers
returns-clause-numbers c =
    let there = at_behind c.args.entries.now.items c.args.replaced c.args.place c.index_mut-entry.result.now c.index_mut-entry.ensures.value in
    ap entry_numbers (drop-set-add c.args.replaced c.args.entries.now.items c.args.place _) ∙ map-set_same entry_number (drop c.args.replaced c.args.entries.now.items) c.args.place _ c.index_mut-entry.result.now (ap entry_number there)

pub returns-clause-rows : goal.returns-clause-rows
returns-clause-rows c =
    let there = at_behind c.args.entries.now.items c.args.replaced c.args.place c.index_mut-entry.result.now c.index_mut-entry.ensures.value in
    ap rows_of (drop-set-add c.args.replaced c.args.entries.now.items c.args.place _) ∙ map-set_same classifier_row (drop c.args.replaced c.args.entries.now.items) c.args.place _ c.index_mut-entry.result.now (ap classifier_row there)

pub returns-clause-due : goal.returns-clause-due
returns-clause-due c = λ at lt was. ap (all_stay (Moment at)) (drop-set-add c.args.replaced c.args.entries.now.items c.args.place _) ∙ set_stay at (drop c.args.replaced c.args.entries.now.items) c.args.place _ was (c.entry_deadline.ensures at lt)
