use Rattle.std.proofs.Common.{arith}
use Rattle.of_text.proofs.SoundLemmas.{fit_next, made_next}
use Rattle.of_text.proofs.to_groups.groups_from.Goals as goal

pub to_group-requires : goal.to_group-requires
to_group-requires c = (fit_next c.args.created c.args.groups.now c.loop-group.group-index c.group-item.result (omega arith) c.group-item.is c.loop-group.invariant.fit).0

pub loop-group-preserved : goal.loop-group-preserved
loop-group-preserved c = record {
  fit = (fit_next c.args.created c.args.groups.now c.loop-group.group-index c.group-item.result (omega arith) c.group-item.is c.loop-group.invariant.fit).1;
  made = made_next c.args.created c.args.groups.now c.loop-group.group-index c.group-item.result _ _ _ _ (omega arith) c.group-item.is c.in_ok-to_group.ensures c.in_ok-push.ensures.items c.loop-group.invariant.made;
}
