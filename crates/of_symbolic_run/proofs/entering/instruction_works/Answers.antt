use Rattle.std.proofs.Common.{◌≡◌, ◌∙◌, true, false, sym, ap}
use Rattle.of_symbolic_run.{specs.Cases.goes_to_table, proofs.CaseLemmas.at_place, proofs.CaseLemmas.instruction_last, proofs.CaseLemmas.instruction_more}
use Rattle.of_symbolic_run.proofs.entering.instruction_works.Goals as goal

pub returns-then-is_goto : goal.returns-then-is_goto
returns-then-is_goto c =
    let l = c.args.instructions.now in
    let i = c.loop-index.index in
    let same = at_place l i c.served_instruction.result c.index-instructions-index.result c.served_instruction.ensures c.loop-index-test.true c.index-instructions-index.is in
    let last : goes_to_table c.served_instruction.result ≡ true = ap goes_to_table same ∙ (sym c.is_goto.ensures ∙ c.if-is_goto.true) in
    instruction_last l i c.served_instruction.result c.loop-index.made.items c.push.new.self.items c.served_instruction.ensures c.loop-index-test.true c.in_ok-push.ensures.items last c.loop-index.invariant

pub loop-index-preserved : goal.loop-index-preserved
loop-index-preserved c =
    let l = c.args.instructions.now in
    let i = c.loop-index.index in
    let same = at_place l i c.served_instruction.result c.index-instructions-index.result c.served_instruction.ensures c.loop-index-test.true c.index-instructions-index.is in
    let on : goes_to_table c.served_instruction.result ≡ false = ap goes_to_table same ∙ (sym c.is_goto.ensures ∙ c.if-is_goto.false) in
    instruction_more l i c.served_instruction.result c.loop-index.made.items c.push.new.self.items c.served_instruction.ensures c.loop-index-test.true c.in_ok-push.ensures.items on c.loop-index.invariant
