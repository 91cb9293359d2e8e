use Rattle.of_regions.proofs.searching.search.Goals as goal
