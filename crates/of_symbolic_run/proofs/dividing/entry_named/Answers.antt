use Rattle.of_symbolic_run.proofs.CaseLemmas.{named_is, named_past}
use Rattle.of_symbolic_run.proofs.dividing.entry_named.Goals as goal

pub returns-in-Some : goal.returns-in-Some
returns-in-Some c = named_is c.args.listed.now c.args.place c.in-Some.place c.index-listed-place.result c.in-Some.is c.index-listed-place.is c.if-place-listed.true

pub returns-in-Some-2 : goal.returns-in-Some-2
returns-in-Some-2 c = named_past c.args.listed.now c.args.place c.in-Some.place c.in-Some.is c.if-place-listed.false
