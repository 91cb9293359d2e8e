use Rattle.std.proofs.Common.{◌≡◌, arith, refl}
use Rattle.of_layers.specs.{declared.field.Field.TheVariants.VlanPcp, declared.field.Field.TheVariants.VlanVid, Fields.ones_of, Fields.row_of}
use Rattle.of_symbolic_run.proofs.finding.set_tag.Goals as goal

vid_ones : ones_of VlanVid ≡ 8191
unfolding row_of
vid_ones = refl

pcp_ones : ones_of VlanPcp ≡ 7
unfolding row_of
pcp_ones = refl

pub set-requires-clause-settable : goal.set-requires-clause-settable
unfolding row_of
set-requires-clause-settable c = refl

pub set-requires-clause-fits : goal.set-requires-clause-fits
set-requires-clause-fits c = omega (arith, vid_ones, c.requires.vid)

pub set-requires-2-clause-settable : goal.set-requires-2-clause-settable
unfolding row_of
set-requires-2-clause-settable c = refl

pub set-requires-2-clause-fits : goal.set-requires-2-clause-fits
set-requires-2-clause-fits c = omega (arith, pcp_ones, c.requires.pcp)
