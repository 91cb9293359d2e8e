use Rattle.of_datapath.specs.{Datapath.world_of, Numbers.forwarding_of}
use Rattle.of_diff.proofs.{EndedLemmas.ended_alike, ReasonLemmas.both_done}
use Rattle.of_diff.proofs.cutting.compare_ended.Goals as goal

pub compare_sent-requires-clause-settled : goal.compare_sent-requires-clause-settled
compare_sent-requires-clause-settled g c = both_done (world_of (forwarding_of c.args.first.now)) (world_of (forwarding_of c.args.second.now)) c.args.pair c.requires.first c.requires.second

pub compare_sent-requires-clause-alike : goal.compare_sent-requires-clause-alike
compare_sent-requires-clause-alike g c =
    ended_alike c.args.compared (world_of (forwarding_of c.args.first.now)) (world_of (forwarding_of c.args.second.now)) c.args.pair c.ended_states_give_runs.ensures.items c.known_world.ensures c.known_world-2.ensures
    c.requires.ports c.requires.first c.requires.second
