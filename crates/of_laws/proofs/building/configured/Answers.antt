use Rattle.of_laws.proofs.BuildingLemmas.{listed_rows}
use Rattle.of_laws.proofs.building.configured.Goals as goal

pub of_items-requires : goal.of_items-requires
of_items-requires c = listed_rows c.args.all.groups.items c.args.all.flows.items c.requires.fits c.requires.rising c.requires.flows
