use Rattle.of_headers.specs.FieldMap.{value}
use Rattle.of_oxm.{specs.Relations.bits_looked_at, proofs.Seen.one_more}
use Rattle.of_oxm.proofs.masks.masks_in.Goals as goal

pub loop-e-preserved : goal.loop-e-preserved
loop-e-preserved c = one_more bits_looked_at c.args.fields.now c.loop-e.e-index _ _ (value c.loop-e.masks) (value c.put.new.self) c.requires.rising c.loop-e-test.true c.loop-e.invariant c.bits_of.ensures c.put.ensures
