use Rattle.std.proofs.Common.{sym, ap, length, List, arith}
use Rattle.of_table.{specs.declared.entry.Entry.Entry, specs.Entries.classifier_row, proofs.PlaceLemmas.position_some, proofs.SpanLemmas.meant_inside, proofs.SpanLemmas.meant_nowhere}
use Rattle.of_classifier.specs.Rows.{is_same_row}
use Rattle.of_table.proofs.flow_table.FlowTable.span_of.Goals as goal

pub overflow_add-result : goal.overflow_add-result
overflow_add-result g c =
    let s = position_some (λ e. is_same_row c.args.which.now.fields c.in-Some.priority (classifier_row e)) c.args.self.now.entries c.in-Some-same_place.place (sym c.in-Some-same_place.ensures) in
    let long = ap (λ (es : List Entry). length es) c.entries-count.ensures in
    omega (arith, s.1, long, c.entries-count.type_inv)

pub returns-in-Some-same_place : goal.returns-in-Some-same_place
returns-in-Some-same_place g c = meant_inside c.args.which.now c.in-Some.priority c.args.self.now.entries c.in-Some-same_place.place c.in-Some.is c.known.ensures.unlike (sym c.in-Some-same_place.ensures)

pub returns-in-None-same_place : goal.returns-in-None-same_place
returns-in-None-same_place g c = meant_nowhere c.args.which.now c.in-Some.priority c.args.self.now.entries c.in-Some.is (sym c.in-None-same_place.ensures)
