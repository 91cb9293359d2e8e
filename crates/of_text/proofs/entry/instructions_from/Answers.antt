use Rattle.of_actions.specs.InstructionLists.{is_served_body}
use Rattle.of_text.{specs.Views.view_instruction, proofs.PushLemmas.made_next, proofs.PushLemmas.others_pass}
use Rattle.of_text.proofs.entry.instructions_from.Goals as goal

pub loop-text-preserved : goal.loop-text-preserved
loop-text-preserved c = record {
  served = others_pass is_served_body view_instruction c.args.texts.now c.loop-text.text-index c.text-item.result c.loop-text-test.true c.loop-text.invariant.served;
  made = made_next view_instruction c.loop-text.instructions.items c.push.new.self.items _ c.args.texts.now c.loop-text.text-index c.text-item.result c.in_ok-instruction_from.field-0
      c.loop-text-test.true c.text-item.is c.in_ok-instruction_from.ensures c.loop-text.invariant.made c.in_ok-push.ensures.items;
}
