use Rattle.std.proofs.Common.{◌++◌, ◌∙◌, List, refl, ap}
use Rattle.of_symbolic_run.{specs.declared.state.SymbolicTask.SymbolicTask, specs.Groups.bucket_lists, proofs.GroupLemmas.group_next}
use Rattle.of_symbolic_run.proofs.grouping.run_group.Goals as goal

pub returns : goal.returns
returns c =
    let rest = c.remove-first.new.self.items in
    let first : SymbolicTask = c.remove-first.result in
    let next : SymbolicTask = record { packet = first.packet; work = c.remove.new.self } in
    group_next c.args.group (bucket_lists c.args.buckets) c.args.state.now _ first next rest c.in_ok-tasks.tasks.items c.requires.first c.remove-first.ensures.value c.remove-first.ensures.items refl c.remove.ensures.items c.in_ok-tasks.ensures
    (c.in_ok-append.ensures.items ∙ ap (λ (l : List SymbolicTask). l ++ rest) c.in_ok-push-2.ensures.items) refl c.in_ok-push.ensures.items
