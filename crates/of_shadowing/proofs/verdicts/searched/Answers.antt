use Rattle.std.proofs.Common.{◌∙◌, ap, inr, subst}
use Rattle.of_regions.specs.declared.searching.Found.TheVariants as found
use Rattle.of_regions.specs.Searching.{Finds}
use Rattle.of_shadowing.{specs.Shadows.is_tie_of_flows, proofs.RivalLemmas.free_wins, proofs.RivalLemmas.taking_never}
use Rattle.of_shadowing.proofs.verdicts.searched.Goals as goal

pub returns-in-Free : goal.returns-in-Free
returns-in-Free c =
    let own = c.args.own.now in
    let f : Finds own.fields c.args.rivals.now c.args.steps (found.Free c.in-Free.field-0) = subst (Finds own.fields c.args.rivals.now c.args.steps) c.in-Free.is c.in_ok-frame.ensures in
    free_wins c.args.flows.now c.args.place own c.requires.there c.overlap_is_common_match.ensures.overlap c.args.rivals.now c.requires.are f.0 f.1 c.in-Free.field-0 f.2

pub returns-in-Taken : goal.returns-in-Taken
returns-in-Taken c =
    let own = c.args.own.now in
    let f : Finds own.fields c.args.rivals.now c.args.steps (found.Taken c.in-Taken.by) = subst (Finds own.fields c.args.rivals.now c.args.steps) c.in-Taken.is c.in_ok-frame.ensures in
    (taking_never c.args.flows.now c.args.place own c.requires.there c.overlap_is_common_match.ensures.overlap c.args.rivals.now c.requires.are f.0 f.1 c.in-Taken.by.items f.2, c.is_tied-tie.ensures ∙ ap (is_tie_of_flows c.args.flows.now c.args.place) c.deref.ensures.value)

pub returns-in-Unreceived : goal.returns-in-Unreceived
returns-in-Unreceived c =
    let own = c.args.own.now in
    let f : Finds own.fields c.args.rivals.now c.args.steps (found.Unreceived c.in-Unreceived.field-0) = subst (Finds own.fields c.args.rivals.now c.args.steps) c.in-Unreceived.is c.in_ok-frame.ensures in
    (c.requires.uncovered, record { own = own; there = c.requires.there; rivals = c.args.rivals.now; are = c.requires.are; start = f.0; begins = f.1; outcome = (c.in-Unreceived.field-0, f.2) })

pub returns-in-Undecided : goal.returns-in-Undecided
returns-in-Undecided c =
    let own = c.args.own.now in
    let f : Finds own.fields c.args.rivals.now c.args.steps found.Undecided = subst (Finds own.fields c.args.rivals.now c.args.steps) c.in-Undecided.is c.in_ok-frame.ensures in
    (c.requires.uncovered, inr (record { own = own; there = c.requires.there; rivals = c.args.rivals.now; are = c.requires.are; start = f.0; begins = f.1; outcome = f.2 }))

pub search-requires : goal.search-requires
search-requires c = c.requires.are.conditions
