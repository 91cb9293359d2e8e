use Rattle.of_shadowing.proofs.RivalLemmas.{AreRivalsBelow}
use Rattle.of_shadowing.proofs.rivals.rivals_of.Given as goal

abbrev pub invariant-loop-at : goal.invariant-loop-at
invariant-loop-at l = AreRivalsBelow l.flows l.place l.own l.rivals.items l.at
