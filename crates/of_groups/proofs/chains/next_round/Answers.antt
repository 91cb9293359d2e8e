use Rattle.std.proofs.Common.{◌∙◌, refl, ap, length, ◌≤◌}
use Rattle.std.{specs.Prelude.map, proofs.lemmas.List.take_all}
use Rattle.of_groups.{specs.Groups.any_named, specs.Rounds.known_of, proofs.RoundLemmas.next_known}
use Rattle.of_groups.proofs.chains.next_round.Goals as goal

pub returns : goal.returns
returns c = λ groups new k h.
    let over : length c.args.round.now.groups.now ≤ c.loop-group.group-index = c.loop-group-test.false in
    next_known c.args.round.now _ groups new k refl refl c.any_named-2.ensures
    (c.loop-group.invariant ∙ ap (map (any_named (known_of c.args.round.now))) (take_all c.loop-group.group-index c.args.round.now.groups.now over)) h
