use Rattle.of_c.proofs.GivingLemmas.{between}
use Rattle.of_c.proofs.diff.switches_of.Goals as goal

pub returns : goal.returns
returns c =
    between _ _ c.in_ok-list.list _ _ _ _ _ _ c.in_ok-list.ensures c.deref.ensures.value c.deref-2.ensures.value c.in_ok-first.ensures.switch c.in_ok-second.ensures.switch c.in_ok-first.ensures.tables c.in_ok-second.ensures.tables
