use Rattle.of_text.{specs.Flows.instruction_rows, specs.Views.view_instruction, proofs.PushLemmas.appended}
use Rattle.of_text.proofs.flow.push_instructions.Goals as goal

pub loop-instruction-preserved : goal.loop-instruction-preserved
loop-instruction-preserved c =
    appended instruction_rows view_instruction c.args.rows.now.items c.loop-instruction.rows.items c.push_instruction.new.rows.items c.args.instructions.now c.loop-instruction.instruction-index c.instruction-item.result
    c.loop-instruction-test.true c.instruction-item.is c.loop-instruction.invariant c.in_ok-push_instruction.ensures
