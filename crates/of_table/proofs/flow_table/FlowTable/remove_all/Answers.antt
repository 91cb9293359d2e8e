use Rattle.std.proofs.Common.{◌≡◌, ◌∙◌, List, drop, sym, ap, rules, arith}
use Rattle.std.proofs.lemmas.Fn.{filter_same}
use Rattle.of_table.specs.{declared.entry.Entry.Entry, declared.selection.Cause.TheVariants.Moment, Deadlines.all_stay, Entries.rows_of, Selecting.kept_of}
use Rattle.of_table.proofs.{AddLemmas.with_entries, Unlike.unlike_kept}
use Rattle.of_table.proofs.flow_table.FlowTable.remove_all.Goals as goal

pub invariant_of-self : goal.invariant_of-self
invariant_of-self g c =
    let es = drop c.self.inside.replaced c.self.inside.entries.items in
    let stay : c.retain.new.self.items ≡ kept_of c.args.cause.now c.settle.new.entries.items = filter_same _ _ _ (λ x b f' k. search rules) _ _ c.retain.ensures.filtered in
    let kept : c.retain.new.self.items ≡ kept_of c.args.cause.now es = stay ∙ ap (kept_of c.args.cause.now) c.settle.ensures.entries in
    rw c.settle.ensures.replaced (
      c.take_gone.ensures ∙ ap (λ (xs : List Entry). rows_of (kept_of c.args.cause.now xs)) c.deref.ensures.value ∙ sym (ap rows_of stay),
      λ at lt. ap (all_stay (Moment at)) (sym c.deref-3.ensures.value) ∙ c.earliest-self-inside.ensures at lt,
      omega arith,
      unlike_kept c.args.cause.now es c.retain.new.self.items kept c.self.invariant.3,
    )

pub returns : goal.returns
returns g c =
    let es = drop c.self.inside.replaced c.self.inside.entries.items in
    let stay : c.retain.new.self.items ≡ kept_of c.args.cause.now c.settle.new.entries.items = filter_same _ _ _ (λ x b f' k. search rules) _ _ c.retain.ensures.filtered in
    rw (← c.self.view_is, c.settle.ensures.replaced) (ap (with_entries c.self.inside.lookups c.self.inside.matched) (stay ∙ ap (kept_of c.args.cause.now) c.settle.ensures.entries))
