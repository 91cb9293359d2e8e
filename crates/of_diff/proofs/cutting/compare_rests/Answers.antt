use Rattle.of_datapath.specs.{Datapath.world_of, Numbers.forwarding_of}
use Rattle.of_diff.proofs.{CutLemmas.go_on_treated_alike, ReasonLemmas.both_go_on}
use Rattle.of_diff.proofs.cutting.compare_rests.Goals as goal

pub compare_sent-requires-clause-settled : goal.compare_sent-requires-clause-settled
compare_sent-requires-clause-settled g c = both_go_on (world_of (forwarding_of c.args.first.now)) (world_of (forwarding_of c.args.second.now)) c.args.table c.args.pair c.requires.agree c.requires.alike

pub compare_sent-requires-clause-alike : goal.compare_sent-requires-clause-alike
compare_sent-requires-clause-alike g c =
    go_on_treated_alike c.args.compared (world_of (forwarding_of c.args.first.now)) (world_of (forwarding_of c.args.second.now)) c.args.table c.known_world.ensures c.known_world-2.ensures
    c.requires.ports c.requires.agree c.args.pair c.requires.alike
