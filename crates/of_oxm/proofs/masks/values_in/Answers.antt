use Rattle.std.proofs.Common.{refl}
use Rattle.of_headers.specs.FieldMap.{value}
use Rattle.of_oxm.proofs.Seen.{one_more}
use Rattle.of_oxm.proofs.masks.values_in.Goals as goal

pub loop-e-preserved : goal.loop-e-preserved
loop-e-preserved c = one_more (λ e. e.value) c.args.fields.now c.loop-e.e-index _ _ (value c.loop-e.values) (value c.put.new.self) c.requires.rising c.loop-e-test.true c.loop-e.invariant refl c.put.ensures
