use Rattle.std.proofs.Common.{drop, length, arith, refl, ◌+◌, ◌≡◌, ◌∙◌, ◌++◌, ◌∷◌, [], false, sym, ap}
use Rattle.std.{specs.List.list_any, proofs.lemmas.List.map-append}
use Rattle.of_wire.specs.Numbered.{is_used}
use Rattle.of_classifier.specs.Rows.{made_row, row_number}
use Rattle.of_table.specs.{Table.FlowEntry, Table.is_same, Table.kept_flow, Entries.flows_of, Entries.classifier_row, Entries.rows_of, Entries.added_entries}
use Rattle.of_table.{specs.declared.selection.Cause.TheVariants.Moment, specs.Deadlines.all_stay, proofs.Replaced.one_behind, proofs.Replaced.one_longer}
use Rattle.of_table.proofs.{AddLemmas.appended, AddLemmas.new_number, AddLemmas.with_entries, DeadlineLemmas.added_none_over, Unlike.unlike_with}
use Rattle.of_table.proofs.flow_table.FlowTable.append.Goals as goal

pub returns-clause-ok : goal.returns-clause-ok
returns-clause-ok g c =
    let es = drop c.self.inside.replaced c.self.inside.entries.items in
    let e = c.new_entry.result in
    let new : list_any (is_same c.args.flow) (flows_of es) ≡ false = rw (← c.self.view_is) at c.requires in
    let unused : is_used row_number e.number (rows_of es) ≡ false = rw (c.new_entry.ensures.number, ← c.self.invariant.0) c.in_ok-number.ensures.unused in
    let last : drop c.self.inside.replaced c.push_reserved.new.entries.items ≡ es ++ e ∷ [] = one_behind c.self.inside.entries.items _ _ c.self.inside.replaced e c.self.invariant.2 c.reserve.ensures.items c.push_reserved.ensures.items in
    let items : drop c.self.inside.replaced c.push_reserved.new.entries.items ≡ added_entries e.number c.args.now c.args.flow es = appended c.args.now c.args.flow es es _ e new c.new_entry.ensures.entry refl last in
    rw (← c.self.view_is)
    (record {
      number = e.number;
      named = new_number c.args.flow es e.number new unused;
      table = ap (with_entries c.self.inside.lookups c.self.inside.matched) items;
    })

pub invariant_of-self-2 : goal.invariant_of-self-2
invariant_of-self-2 g c =
    let es = drop c.self.inside.replaced c.self.inside.entries.items in
    let e = c.new_entry.result in
    let new : list_any (is_same c.args.flow) (flows_of es) ≡ false = rw (← c.self.view_is) at c.requires in
    let last : drop c.self.inside.replaced c.push_reserved.new.entries.items ≡ es ++ e ∷ [] = one_behind c.self.inside.entries.items _ _ c.self.inside.replaced e c.self.invariant.2 c.reserve.ensures.items c.push_reserved.ensures.items in
    let items : drop c.self.inside.replaced c.push_reserved.new.entries.items ≡ added_entries e.number c.args.now c.args.flow es = appended c.args.now c.args.flow es es _ e new c.new_entry.ensures.entry refl last in
    let flow : e.flow ≡ kept_flow c.args.flow = ap (λ (x : FlowEntry). x.flow) c.new_entry.ensures.entry in
    let row : classifier_row e ≡ made_row c.in_ok-number.number c.args.flow.priority c.in_ok-fields.fields = (λ j. made_row (c.new_entry.ensures.number j) (flow j).priority (flow j).fields) ∙ ap (made_row c.in_ok-number.number c.args.flow.priority) (sym c.in_ok-fields.ensures) in
    let long : length c.push_reserved.new.entries.items ≡ length c.self.inside.entries.items + 1 = one_longer c.self.inside.entries.items _ _ e c.reserve.ensures.items c.push_reserved.ensures.items in (
      c.in_ok-number.ensures.ok ∙ (λ j. c.self.invariant.0 j ++ sym row j ∷ []) ∙ sym (map-append classifier_row es (e ∷ [])) ∙ ap rows_of (sym last),
      λ at lt. ap (all_stay (Moment at)) items
          ∙ added_none_over c.self.inside.due c.flow_deadline.result e.number c.args.now c.args.flow es c.self.invariant.1 c.flow_deadline.ensures at (rw c.min-due.ensures at lt),
      omega (arith, long, c.self.invariant.2),
      unlike_with e.number c.args.now c.args.flow es _ items c.self.invariant.3,
    )
