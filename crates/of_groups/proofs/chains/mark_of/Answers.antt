use Rattle.std.proofs.Common.{◌∙◌, sym}
use Rattle.of_groups.proofs.RoundLemmas.{mark_some, mark_none}
use Rattle.of_groups.proofs.chains.mark_of.Goals as goal

pub returns-in-Some : goal.returns-in-Some
returns-in-Some c = c.mark_at_place.ensures ∙ sym (mark_some c.args.groups.now c.args.marks.now c.args.number c.in-Some.place (sym c.place_of.ensures ∙ c.in-Some.is))

pub returns-in-None : goal.returns-in-None
returns-in-None c = sym (mark_none c.args.groups.now c.args.marks.now c.args.number (sym c.place_of.ensures ∙ c.in-None.is))
