use Rattle.std.proofs.Common.{ap, arith, sym, ◌∙◌}
use Rattle.of_text.{specs.Lines.is_passed, proofs.LineLemmas.some_bytes, proofs.LineLemmas.no_bytes}
use Rattle.of_sockets.proofs.RefusalLemmas.{number_found, number_passed, numbers_all}
use Rattle.of_sockets.proofs.refusals.row_numbers.Goals as goal

pub loop-rest-preserved-in-Continue-1 : goal.loop-rest-preserved-in-Continue-1
loop-rest-preserved-in-Continue-1 c =
    let l = c.loop-rest in
    let some = some_bytes l.rest.now c.is_empty.result c.is_empty.ensures c.loop-rest-test.true in
    let row = sym (c.is_passed_over.ensures ∙ ap is_passed c.cut.ensures.first) ∙ c.if-not-is_passed_over.true in
    record {
      numbers = rw (c.cut.ensures.rest, c.in_ok-push.ensures.items) (number_found c.args.file.now l.rest.now l.numbers.items l.number some row l.invariant.numbers);
      count = omega (arith, some, l.invariant.count, c.cut.ensures.shorter);
    }

pub loop-rest-preserved : goal.loop-rest-preserved
loop-rest-preserved c =
    let l = c.loop-rest in
    let some = some_bytes l.rest.now c.is_empty.result c.is_empty.ensures c.loop-rest-test.true in
    let passed = sym (c.is_passed_over.ensures ∙ ap is_passed c.cut.ensures.first) ∙ c.if-not-is_passed_over.false in
    record {
      numbers = rw c.cut.ensures.rest (number_passed c.args.file.now l.rest.now l.numbers.items l.number some passed l.invariant.numbers);
      count = omega (arith, some, l.invariant.count, c.cut.ensures.shorter);
    }

pub returns : goal.returns
returns c =
    let l = c.loop-rest in
    numbers_all c.args.file.now l.rest.now l.numbers.items l.number (no_bytes l.rest.now c.is_empty.result c.is_empty.ensures c.loop-rest-test.false) l.invariant.numbers
