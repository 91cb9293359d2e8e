use Rattle.of_headers.specs.FieldMap.{value}
use Rattle.of_regions.proofs.BuildingLemmas.{put_none}
use Rattle.of_regions.proofs.building.put.Goals as goal

pub returns-in-None : goal.returns-in-None
returns-in-None c f = put_none (value c.args.key) c.args.field f c.args.number c.requires.absent c.in-None.is
