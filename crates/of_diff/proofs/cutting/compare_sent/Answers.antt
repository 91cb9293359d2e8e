use Rattle.std.proofs.Common.{refl}
use Rattle.of_diff.proofs.cutting.compare_sent.Goals as goal

pub other_ingress-requires : goal.other_ingress-requires
other_ingress-requires g c = rw c.port_list-ports.ensures c.known_world.ensures.rising

pub returns-in-None : goal.returns-in-None
returns-in-None g c = c.requires.alike (rw (c.port_list-ports.ensures, c.deref.ensures.value, c.deref-2.ensures.value) at c.in-None.ensures.none)

pub try_pair-requires-clause-differ : goal.try_pair-requires-clause-differ
try_pair-requires-clause-differ g c = rw (c.deref.ensures.value, c.deref-2.ensures.value) at (c.in-Some.ensures.some refl)
