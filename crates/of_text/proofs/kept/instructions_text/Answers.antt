use Rattle.std.proofs.Common.{arith}
use Rattle.of_text.{specs.Views.view_instruction, proofs.MadeLemmas.seen_more}
use Rattle.of_text.proofs.kept.instructions_text.Goals as goal

pub loop-instruction-preserved : goal.loop-instruction-preserved
loop-instruction-preserved c = record {
  made = seen_more view_instruction c.args.instructions.now c.loop-instruction.instruction-index c.instruction-item.result _ _ _ (omega arith) c.instruction-item.is c.in_ok-instruction_text.ensures c.in_ok-push.ensures.items c.loop-instruction.invariant.made;
}
