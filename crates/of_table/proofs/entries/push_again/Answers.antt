use Rattle.std.proofs.Common.{◌≡◌, ℕ, ◌+◌, ◌∙◌, List, [], ◌∷◌, ◌++◌, length, sym, ap, drop, arith}
use Rattle.std.proofs.lemmas.List.{length-append}
use Rattle.of_wire.specs.Numbered.{moved_to_end}
use Rattle.of_classifier.specs.Rows.{row_number}
use Rattle.of_table.proofs.AddLemmas.{flow_is, added_again, same_number, row_again, used_again, rows_again}
use Rattle.of_table.{specs.declared.entry.Entry.Entry, specs.Entries.entry_of, specs.Entries.rows_of, specs.Table.is_same, proofs.PlaceLemmas.position_some}
use Rattle.of_table.proofs.{Replaced.at_first, Replaced.one_replaced, Unlike.others_left}
use Rattle.of_table.proofs.entries.push_again.Goals as goal

pub returns-clause-used : goal.returns-clause-used
returns-clause-used c =
    let xs = c.args.entries.now.items in
    let e = c.index.result.now in
    let s = position_some (λ x. is_same c.args.flow (entry_of x)) (drop c.args.replaced xs) 0 c.requires.same in
    rw c.replaced_entry-again.ensures.number (used_again (drop c.args.replaced xs) 0 e s.1 (at_first xs c.args.replaced e c.index.ensures))

pub returns-clause-rows : goal.returns-clause-rows
returns-clause-rows c =
    let xs = c.args.entries.now.items in
    let es = drop c.args.replaced xs in
    let e = c.index.result.now in
    let f = c.replaced_entry-again.result in
    let s = position_some (λ x. is_same c.args.flow (entry_of x)) es 0 c.requires.same in
    let there = at_first xs c.args.replaced e c.index.ensures in
    let same = row_again c.args.flow es 0 e f c.requires.same there c.replaced_entry-again.ensures.number (flow_is c.args.now c.args.flow f (entry_of e) c.replaced_entry-again.ensures.entry) in
    ap (λ (ys : List Entry). rows_of (drop (c.args.replaced + 1) ys)) c.push_reserved.ensures.items
    ∙ ap rows_of (one_replaced xs c.args.replaced f c.requires.within)
    ∙ rows_again es 0 e f c.requires.distinct s.1 there same ∙ ap (λ (n : ℕ). moved_to_end row_number n (rows_of es)) (sym c.replaced_entry-again.ensures.number)

pub returns-clause-named : goal.returns-clause-named
returns-clause-named c =
    let xs = c.args.entries.now.items in
    let e = c.index.result.now in
    same_number c.args.flow (drop c.args.replaced xs) 0 e c.replaced_entry-again.result.number c.requires.same (at_first xs c.args.replaced e c.index.ensures) c.replaced_entry-again.ensures.number

pub returns-clause-entries : goal.returns-clause-entries
returns-clause-entries c =
    let xs = c.args.entries.now.items in
    let es = drop c.args.replaced xs in
    let e = c.index.result.now in
    let f = c.replaced_entry-again.result in
    ap (λ (ys : List Entry). drop (c.args.replaced + 1) ys) c.push_reserved.ensures.items
    ∙ one_replaced xs c.args.replaced f c.requires.within
    ∙ added_again c.args.now c.args.flow es 0 e f c.requires.same (at_first xs c.args.replaced e c.index.ensures) (others_left c.args.flow es 0 c.requires.unlike c.requires.same) c.replaced_entry-again.ensures.entry

pub returns-clause-within : goal.returns-clause-within
returns-clause-within c =
    let xs = c.args.entries.now.items in
    let f = c.replaced_entry-again.result in
    let long : length (xs ++ f ∷ []) ≡ length xs + 1 = length-append xs (f ∷ []) in
    rw c.push_reserved.ensures.items (omega (arith, long, c.requires.within))
