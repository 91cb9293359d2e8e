use Rattle.std.proofs.Common.{arith}
use Rattle.of_text.{specs.Groups.group_rows, specs.Groups.group_text, specs.Views.view_group, proofs.MadeLemmas.mapped_more, proofs.MadeLemmas.fits_more}
use Rattle.of_datapath.proofs.configuring.groups_text.Goals as goal

pub loop-group-preserved : goal.loop-group-preserved
loop-group-preserved c = record {
  made = mapped_more view_group group_text c.args.groups.now c.loop-group.group-index c.group-item.result _ _ _ _ (omega arith) c.group-item.is c.in_ok-of.ensures.text c.in_ok-push.ensures.items c.loop-group.invariant.made;
  fits = fits_more view_group group_rows _ _ _ c.in_ok-push.ensures.items c.in_ok-of.ensures.fits c.loop-group.invariant.fits;
}
