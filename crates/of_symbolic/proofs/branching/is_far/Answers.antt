use Rattle.std.proofs.Common.{sym}
use Rattle.of_symbolic.proofs.NearLemmas.{apart_far}
use Rattle.of_symbolic.proofs.branching.is_far.Goals as goal

pub returns-in-Some : goal.returns-in-Some
returns-in-Some c test = apart_far c.args.part.now c.args.entry.now.fields c.in-Some.fields c.in-Some.is (rw (sym c.deref.ensures.value, sym c.deref-in-Some.ensures.value) (c.are_apart.ensures test))
