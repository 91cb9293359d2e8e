use Rattle.std.proofs.Common.{◌∙◌, ◌≤◌, false, ap, length}
use Rattle.std.{specs.Prelude.map, specs.Option.option_map_or, proofs.lemmas.List.take_all}
use Rattle.of_groups.{specs.declared.group.Group.Group, specs.Groups.find_group, specs.Groups.any_named, specs.Rounds.mark_at, proofs.MarkLemmas.next_marked}
use Rattle.of_groups.proofs.listed.next_marks.Goals as goal

pub returns : goal.returns
returns c = λ k h.
    let over : length c.args.groups.now ≤ c.loop-group.group-index = c.loop-group-test.false in
    next_marked c.args.groups.now c.args.before.now _ k
    (c.loop-group.invariant ∙ ap (map (λ (g : Group). option_map_or (any_named (mark_at c.args.groups.now c.args.before.now)) (find_group g.id c.args.groups.now) false)) (take_all c.loop-group.group-index c.args.groups.now over)) h
