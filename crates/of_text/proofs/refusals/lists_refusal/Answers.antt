use Rattle.std.proofs.Common.{Some, sym, ◌∙◌, arith}
use Rattle.of_text.{specs.Refusals.instruction_refusals, specs.Views.view_instruction, proofs.RefusalLemmas.next_first}
use Rattle.of_text.proofs.refusals.lists_refusal.Goals as goal

pub returns-in-Some : goal.returns-in-Some
returns-in-Some c = sym (next_first (λ i. instruction_refusals (view_instruction i)) c.args.instructions.now c.loop-instruction.instruction-index c.instruction-item.result (Some c.in-Some.code) (omega arith) c.instruction-item.is (sym c.in-Some.is ∙ c.instruction_refusal.ensures) c.loop-instruction.invariant)

pub loop-instruction-preserved : goal.loop-instruction-preserved
loop-instruction-preserved c = next_first (λ i. instruction_refusals (view_instruction i)) c.args.instructions.now c.loop-instruction.instruction-index c.instruction-item.result _ (omega arith) c.instruction-item.is (sym c.in_default.is ∙ c.instruction_refusal.ensures) c.loop-instruction.invariant
