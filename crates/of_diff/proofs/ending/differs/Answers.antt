use Rattle.of_diff.proofs.GatheringLemmas.{one_set_differs}
use Rattle.of_diff.proofs.ending.differs.Goals as goal

pub returns : goal.returns
returns c = λ compared w v steps shown.
    one_set_differs compared w v _ c.args.pair.frames c.in_ok-one_set.ensures shown.within shown.received_first shown.received_second shown.first shown.second shown.differs
