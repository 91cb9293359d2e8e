use Rattle.std.proofs.Common.{refl, arith}
use Rattle.of_text.{specs.Views.view_groups, proofs.WriteLemmas.group_fits, proofs.WriteLemmas.group_written, proofs.WriteLemmas.groups_text, proofs.PushLemmas.all_written}
use Rattle.of_text.proofs.disassembling.write_groups.Goals as goal

pub write_group-requires : goal.write_group-requires
write_group-requires c = (group_fits c.args.groups.now c.loop-group.group-index c.group-item.result (omega arith) c.group-item.is c.loop-group.invariant.fits).0

pub loop-group-preserved : goal.loop-group-preserved
loop-group-preserved c = record {
  fits = (group_fits c.args.groups.now c.loop-group.group-index c.group-item.result (omega arith) c.group-item.is c.loop-group.invariant.fits).1;
  text = group_written c.args.groups.now c.loop-group.group-index c.group-item.result _ _ _ (omega arith) c.group-item.is c.in_ok-write_group.ensures c.loop-group.invariant.text;
}

pub returns : goal.returns
returns c = all_written (λ gs. groups_text (view_groups gs)) c.loop-group.out.items _ c.args.groups.now c.loop-group.group-index c.loop-group-test.false refl c.loop-group.invariant.text
