use Rattle.std.proofs.Common.{sym, ◌∙◌, ◌≡◌, ◌++◌, ◌∷◌, []}
use Rattle.of_action_set.proofs.Kinded.{only_last, none_but_last}
use Rattle.of_action_set.proofs.action_set.without_output.Goals as goal

pub returns-then-is_output : goal.returns-then-is_output
returns-then-is_output c =
    let parts : c.args.actions.now ≡ c.in-Some.before.now ++ c.in-Some.last.now ∷ [] = c.in-Some.ensures.cases.0 in
    rw parts (sym (only_last c.in-Some.before.now c.in-Some.last.now (rw parts at c.requires) (sym c.is_output.ensures ∙ c.if-is_output.true)))

pub returns-else-is_output : goal.returns-else-is_output
returns-else-is_output c =
    let parts : c.args.actions.now ≡ c.in-Some.before.now ++ c.in-Some.last.now ∷ [] = c.in-Some.ensures.cases.0 in
    rw parts (sym (none_but_last c.in-Some.before.now c.in-Some.last.now (rw parts at c.requires) (sym c.is_output.ensures ∙ c.if-is_output.false)))
