use Rattle.std.proofs.Common.{◌≡◌, ◌∙◌, ℕ, ap, drop, refl, subst, sym}
use Rattle.of_symbolic_run.specs.{States.answer_to_tasks, declared.advance.Advance.TheVariants.Lookup}
use Rattle.of_alike.specs.Agreeing.{StayFrom}
use Rattle.of_diff.proofs.TaskLemmas.{all_behind, first_set}
use Rattle.of_diff.proofs.turns.are_at_table_before.Goals as goal

pub returns-then-are_tasks_from : goal.returns-then-are_tasks_from
returns-then-are_tasks_from c = λ same.
    let own : answer_to_tasks c.args.a.now.tasks.items ≡ Lookup c.in-Table.next = ap answer_to_tasks (sym c.deref.ensures.value) ∙ c.place_of.ensures.table c.in-Table.next c.in-Table.is in
    record {
      same = rw (sym c.deref-then-are_tasks_from.ensures.value, sym c.deref-then-are_tasks_from-2.ensures.value) (c.have_equal_tasks.ensures same);
      positive = c.if-table-gt0.true;
      lookup = own ∙ ap (λ (t : ℕ). Lookup t) c.if-next-table.true;
      set = first_set c.args.a.now.tasks.items c.index.result.now c.as_slice.result.now c.in-Table.next own c.index.ensures c.as_slice.ensures.actions c.as_slice.ensures.served;
      others = subst (StayFrom c.args.table) (all_behind c.deref-in-Table.result.now ∙ ap (drop 1) c.deref-in-Table.ensures.value) (c.if-are_tasks_from.ensures refl);
    }
