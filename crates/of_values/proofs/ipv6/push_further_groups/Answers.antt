use Rattle.std.proofs.Common.{◌-◌, ◌++◌, arith}
use Rattle.of_values.{specs.Ipv6.further_groups, proofs.StepLemmas.groups_next}
use Rattle.of_values.proofs.ipv6.push_further_groups.Goals as goal

pub loop-left-preserved : goal.loop-left-preserved
loop-left-preserved c = record {
  few = omega (arith, c.loop-left.invariant.few);
  text = groups_next c.args.low c.loop-left.left (c.loop-left.left - 1) c.args.number c.loop-left.out.items c.push.new.self.items c.push_group.new.out.items (c.args.out.now.items ++ further_groups c.args.low c.args.count c.args.number)
      (omega (arith, c.loop-left-test.true)) c.in_ok-push.ensures.items c.in_ok-push_group.ensures c.loop-left.invariant.text;
}
