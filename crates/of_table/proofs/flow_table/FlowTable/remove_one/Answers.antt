use Rattle.std.proofs.Common.{◌≡◌, ◌+◌, ◌-◌, ◌<◌, ◌∙◌, true, false, length, get_or, drop, refl, sym, ap, arith}
use Rattle.std.{specs.Prelude.is_some, specs.Prelude.remove, proofs.lemmas.List.length-drop}
use Rattle.of_wire.specs.Numbered.{is_distinct, without}
use Rattle.of_classifier.specs.Rows.{row_number}
use Rattle.of_table.specs.{Entries.entry_of, Entries.rows_of, Selecting.reason_of, Selecting.stays, Selecting.kept_of}
use Rattle.of_table.proofs.{AddLemmas.with_entries, AddLemmas.used_again, AddLemmas.rows_gone, DeadlineLemmas.kept_none_over, RemoveLemmas.goes_by, RemoveLemmas.stays_by}
use Rattle.of_table.proofs.{Replaced.at_behind, Replaced.one_gone, SpanLemmas.one_goes, SpanLemmas.one_stays, Unlike.unlike_kept}
use Rattle.of_table.proofs.flow_table.FlowTable.remove_one.Goals as goal

pub take-requires : goal.take-requires
take-requires g c =
    let es = drop c.self.inside.replaced c.self.inside.entries.items in
    let o = rw (← c.self.view_is) at c.requires in
    let lt : c.args.place < length es = omega (arith, o.within) in
    rw c.self.invariant.0 (used_again es c.args.place c.remove-entry.result lt (at_behind c.self.inside.entries.items c.self.inside.replaced c.args.place c.remove-entry.result c.remove-entry.ensures.value))

pub invariant_of-self : goal.invariant_of-self
invariant_of-self g c =
    let xs = c.self.inside.entries.items in
    let r = c.self.inside.replaced in
    let es = drop r xs in
    let e = c.index.result.now in
    let f = c.remove-entry.result in
    let o = rw (← c.self.view_is) at c.requires in
    let few : length es ≡ length xs - r = length-drop r xs in
    let lt : c.args.place < length es = omega (arith, o.within) in
    let there : e ≡ get_or es c.args.place e = at_behind xs r c.args.place e c.index.ensures in
    let gone : drop r c.remove-entry.new.self.items ≡ remove es c.args.place = ap (drop r) c.remove-entry.ensures.items ∙ one_gone xs r c.args.place (r + c.args.place) refl (omega (arith, lt, few)) in
    let some : true ≡ is_some (reason_of c.args.cause.now (entry_of e)) = c.if-is_some.ensures ∙ ap is_some c.reason.ensures in
    let goes : stays c.args.cause.now (entry_of (get_or es c.args.place e)) ≡ false = rw (← there) (goes_by (reason_of c.args.cause.now (entry_of e)) some) in
    let kept : drop r c.remove-entry.new.self.items ≡ kept_of c.args.cause.now es = gone ∙ sym (one_goes c.args.cause.now es c.args.place e o goes) in
    let distinct : is_distinct row_number (rows_of es) ≡ true = rw c.self.invariant.0 at c.known.ensures in (
      c.take.ensures ∙ ap (without row_number f.number) c.self.invariant.0 ∙ rows_gone es c.args.place f distinct lt (at_behind xs r c.args.place f c.remove-entry.ensures.value) ∙ sym (ap rows_of gone),
      kept_none_over c.self.inside.due c.args.cause.now es (drop r c.remove-entry.new.self.items) kept c.self.invariant.1,
      omega (arith, c.remove-entry.ensures.len, lt, few),
      unlike_kept c.args.cause.now es (drop r c.remove-entry.new.self.items) kept c.self.invariant.3,
    )

pub returns-then-is_some : goal.returns-then-is_some
returns-then-is_some g c =
    let xs = c.self.inside.entries.items in
    let r = c.self.inside.replaced in
    let es = drop r xs in
    let e = c.index.result.now in
    let o = rw (← c.self.view_is) at c.requires in
    let few : length es ≡ length xs - r = length-drop r xs in
    let lt : c.args.place < length es = omega (arith, o.within) in
    let there : e ≡ get_or es c.args.place e = at_behind xs r c.args.place e c.index.ensures in
    let gone : drop r c.remove-entry.new.self.items ≡ remove es c.args.place = ap (drop r) c.remove-entry.ensures.items ∙ one_gone xs r c.args.place (r + c.args.place) refl (omega (arith, lt, few)) in
    let some : true ≡ is_some (reason_of c.args.cause.now (entry_of e)) = c.if-is_some.ensures ∙ ap is_some c.reason.ensures in
    let goes : stays c.args.cause.now (entry_of (get_or es c.args.place e)) ≡ false = rw (← there) (goes_by (reason_of c.args.cause.now (entry_of e)) some) in
    rw (← c.self.view_is) (ap (with_entries c.self.inside.lookups c.self.inside.matched) (gone ∙ sym (one_goes c.args.cause.now es c.args.place e o goes)))

pub returns-else-is_some : goal.returns-else-is_some
returns-else-is_some g c =
    let xs = c.self.inside.entries.items in
    let es = drop c.self.inside.replaced xs in
    let e = c.index.result.now in
    let o = rw (← c.self.view_is) at c.requires in
    let there : e ≡ get_or es c.args.place e = at_behind xs c.self.inside.replaced c.args.place e c.index.ensures in
    let none : false ≡ is_some (reason_of c.args.cause.now (entry_of e)) = c.if-is_some.ensures ∙ ap is_some c.reason.ensures in
    let is : stays c.args.cause.now (entry_of (get_or es c.args.place e)) ≡ true = rw (← there) (stays_by (reason_of c.args.cause.now (entry_of e)) none) in
    rw (← c.self.view_is) (ap (with_entries c.self.inside.lookups c.self.inside.matched) (sym (one_stays c.args.cause.now es c.args.place e o is)))
