use Rattle.std.proofs.Common.{List, take_all, ◌∙◌, ap}
use Rattle.of_oxm.specs.Masks.{mask_at}
use Rattle.of_mask_groups.{specs.declared.group.Group.Group, specs.Probed.groups_look, proofs.Looking.look_more}
use Rattle.of_mask_groups.proofs.probing.mask_of_groups.Goals as goal

pub loop-group-init : goal.loop-group-init
loop-group-init c = c.empty-mask.ensures

pub loop-group-preserved : goal.loop-group-preserved
loop-group-preserved c = look_more c.args.groups.now c.loop-group.group-index c.group-item.result (mask_at c.loop-group.mask) (mask_at c.or-mask.result) c.loop-group-test.true c.group-item.is c.loop-group.invariant c.or-mask.ensures

pub returns : goal.returns
returns c = λ f. c.loop-group.invariant f ∙ ap (λ (gs : List Group). groups_look gs f) (take_all c.loop-group.group-index c.args.groups.now c.loop-group-test.false)
