use Rattle.of_regions.specs.Searching.{AreSteps, IsState, regions_in}
use Rattle.of_regions.proofs.searching.search_among.Given as goal

abbrev pub invariant-loop-turn : goal.invariant-loop-turn
invariant-loop-turn l = record {
  state : IsState l.regions l.rivals l.search.rests.items l.search.names.items l.search.unreceived;
  steps : AreSteps l.regions l.rivals l.turn (regions_in l.search.rests.items);
}
