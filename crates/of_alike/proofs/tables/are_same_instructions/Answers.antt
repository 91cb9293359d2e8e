use Rattle.std.{specs.Borrow.Bor, specs.Slice.Iter.iter_rest, proofs.Common.◌≡◌, proofs.Common.true, proofs.Common.drop, proofs.lemmas.List.drop_all}
use Rattle.of_actions.specs.declared.instruction.Instruction.{Instruction}
use Rattle.of_symbolic_run.proofs.Pairing.{at_index, no_elements, pairing_decided, pairing_goes_on, pairing_parts}
use Rattle.of_alike.proofs.tables.are_same_instructions.Goals as goal

pub returns-in_default : goal.returns-in_default
returns-in_default c =
    let xs = c.args.xs.now in
    let here = at_index xs c.loop-x.x-index c.x-item.result c.loop-x-test.true c.x-item.is in
    let differ = pairing_parts xs c.args.ys.now (drop c.loop-x.x-index xs) (iter_rest c.loop-x.others) c.loop-x.invariant c.x-item.result c.in-Some.y.now _ _ here c.in-Some.ensures.steps
    (λ same. let yes : c.is_same_instruction.result ≡ true = c.is_same_instruction.ensures.1 same in let no = c.if-is_same_instruction.false in absurd cc) in
    (λ h. absurd cc, λ h. absurd (differ h))

pub loop-x-preserved : goal.loop-x-preserved
loop-x-preserved c =
    let xs = c.args.xs.now in
    let here = at_index xs c.loop-x.x-index c.x-item.result c.loop-x-test.true c.x-item.is in
    pairing_goes_on xs c.args.ys.now (drop c.loop-x.x-index xs) (iter_rest c.loop-x.others) c.loop-x.invariant c.x-item.result c.in-Some.y.now _ _ here c.in-Some.ensures.steps (c.is_same_instruction.ensures.0 c.if-is_same_instruction.true)

pub returns : goal.returns
returns c =
    let xs = c.args.xs.now in
    let rest = iter_rest c.loop-x.others in
    pairing_decided xs c.args.ys.now (drop c.loop-x.x-index xs) rest c.loop-x.invariant (drop_all c.loop-x.x-index xs c.loop-x-test.false) (λ (y : Bor Instruction). y.now) _ (λ done. no_elements rest done.0) c.next-2.result _ c.next-2.ensures.steps c.is_none.result c.is_none.ensures
