use Rattle.std.proofs.Common.{◌∙◌, true, refl, ap, length, ◌≤◌}
use Rattle.std.{specs.Prelude.map, proofs.lemmas.List.take_all}
use Rattle.of_groups.{specs.declared.group.Group.Group, proofs.RoundLemmas.first_known}
use Rattle.of_groups.proofs.chains.first_round.Goals as goal

pub returns : goal.returns
returns c =
    let over : length c.args.groups.now ≤ c.loop-group._group-index = c.loop-group-test.false in
    first_known _ c.args.groups.now c.args.new.now refl refl refl (c.loop-group.invariant ∙ ap (map (λ (g : Group). true)) (take_all c.loop-group._group-index c.args.groups.now over))
