use Rattle.of_alike.proofs.IngressPortLemmas.{none_of_set}
use Rattle.of_alike.proofs.ingress.has_none_from.Goals as goal

pub returns : goal.returns
returns c = λ yes. none_of_set c.args.frames.now c.args.port (rw (c.deref.ensures.value, c.deref-2.ensures.value) at (c.regions_have_none_from.ensures yes))
