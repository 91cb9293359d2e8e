use Rattle.std.proofs.Common.{arith}
use Rattle.of_text.{specs.Views.view_group, proofs.MadeLemmas.mapped_more}
use Rattle.of_import.specs.declared.parsed_lines.GroupLine.{GroupLine}
use Rattle.of_import.proofs.kept.copies_of.Goals as goal

pub loop-it-preserved : goal.loop-it-preserved
loop-it-preserved c = record {
  made = mapped_more view_group (λ (g : GroupLine). view_group g.group) c.args.groups.now c.loop-it.it-index c.it-item.result _ _ _ _ (omega arith) c.it-item.is c.in_ok-copy_group.ensures c.in_ok-push.ensures.items c.loop-it.invariant.made;
}
