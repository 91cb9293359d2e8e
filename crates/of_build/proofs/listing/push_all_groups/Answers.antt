use Rattle.std.proofs.Common.{◌+◌, ◌++◌, List, length, ap, ◌∙◌}
use Rattle.of_text.specs.{Groups.TextGroup, Views.view_groups}
use Rattle.of_build.{specs.Listing.group_adds, specs.Listing.in_turn, specs.Listing.of_length, proofs.ListingLemmas.three_passes}
use Rattle.of_build.proofs.listing.push_all_groups.Goals as goal

pub returns-clause-messages : goal.returns-clause-messages
returns-clause-messages c =
    let gs : List TextGroup = view_groups c.groups-groups.result.now in
    (three_passes (of_length gs 1 gs) (of_length gs 2 gs) (of_length gs 3 gs) _ _ _ _ _ _ _ c.in_ok-second.ensures.messages c.in_ok-second.ensures.next c.in_ok-third.ensures.messages c.in_ok-third.ensures.next c.in_ok-next.ensures.messages c.in_ok-next.ensures.next).0
    ∙ ap (λ (x : List TextGroup). c.args.out.now.items ++ group_adds 1 (in_turn x)) c.groups-groups.ensures

pub returns-clause-next : goal.returns-clause-next
returns-clause-next c =
    let gs : List TextGroup = view_groups c.groups-groups.result.now in
    (three_passes (of_length gs 1 gs) (of_length gs 2 gs) (of_length gs 3 gs) _ _ _ _ _ _ _ c.in_ok-second.ensures.messages c.in_ok-second.ensures.next c.in_ok-third.ensures.messages c.in_ok-third.ensures.next c.in_ok-next.ensures.messages c.in_ok-next.ensures.next).1
    ∙ ap (λ (x : List TextGroup). 1 + length (in_turn x)) c.groups-groups.ensures
