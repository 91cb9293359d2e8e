use Rattle.std.{specs.Prelude.map, proofs.Common.◌∙◌, proofs.Common.◌≤◌, proofs.Common.ap, proofs.Common.length, proofs.lemmas.List.take_all}
use Rattle.of_groups.{specs.declared.group.Group.Group, specs.Groups.is_there, proofs.MarkLemmas.first_marked}
use Rattle.of_groups.proofs.listed.first_marks.Goals as goal

pub returns : goal.returns
returns c =
    let over : length c.args.groups.now ≤ c.loop-group.group-index = c.loop-group-test.false in
    c.loop-group.invariant ∙ (ap (map (λ (g : Group). is_there g.id c.args.groups.now)) (take_all c.loop-group.group-index c.args.groups.now over) ∙ first_marked c.args.groups.now)
