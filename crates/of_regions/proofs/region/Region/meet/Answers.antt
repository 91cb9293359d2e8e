use Rattle.std.proofs.Common.{◌∙◌, sym}
use Rattle.of_regions.proofs.MeetingLemmas.{first_crossed, none_unsettled, some_apart}
use Rattle.of_regions.proofs.region.Region.meet.Goals as goal

pub returns-then-any_apart : goal.returns-then-any_apart
returns-then-any_apart c = some_apart c.args.self.now c.args.fields.now (sym c.any_apart.ensures ∙ c.if-any_apart.true)

pub returns-in-None : goal.returns-in-None
returns-in-None c = none_unsettled c.args.self.now c.args.fields.now (sym c.first_unsettled.ensures ∙ c.in-None.is)

pub returns-in-Some : goal.returns-in-Some
returns-in-Some c =
    let near = sym c.any_apart.ensures ∙ c.if-any_apart.false in
    let first = first_crossed c.args.self.now c.args.fields.now c.in-Some.e near (sym c.first_unsettled.ensures ∙ c.in-Some.is) in
    (first.0, first.1, near)
