use Rattle.std.proofs.Common.{arith}
use Rattle.of_text.{specs.Views.view_instruction, proofs.MadeLemmas.mapped_more}
use Rattle.of_import.proofs.copies.copy_instructions.Goals as goal

pub loop-instruction-preserved : goal.loop-instruction-preserved
loop-instruction-preserved c = record {
  made = mapped_more view_instruction view_instruction c.args.instructions.now c.loop-instruction.instruction-index c.instruction-item.result _ _ _ _ (omega arith) c.instruction-item.is c.in_ok-copy_instruction.ensures c.in_ok-push.ensures.items c.loop-instruction.invariant.made;
}
