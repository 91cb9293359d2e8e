use Rattle.std.proofs.{Common.arith, lemmas.Result.err_from_is_err_and}
use Rattle.of_actions.proofs.{Bodies.body_refused, Bodies.all_read, ReaderLaws.fails_weaker}
use Rattle.of_actions.proofs.instruction_reading.read_bodies.Goals as goal

pub returns-in_err-instruction-clause-refused : goal.returns-in_err-instruction-clause-refused
returns-in_err-instruction-clause-refused c =
    let p = err_from_is_err_and c.from_residual-in_err-instruction.result c.from_residual-in_err-instruction.ensures.1 in
    rw (p.1, p.2) (fails_weaker _ _ (λ code h. body_refused c.args.headers.now c.loop-header.header-index c.header-item.result c.loop-header.instructions.items code c.loop-header.invariant.reading c.loop-header-test.true c.header-item.is h) c.in_err-instruction.field-0.0 c.in_err-instruction.ensures.refused)

pub returns-clause-found : goal.returns-clause-found
returns-clause-found c = all_read c.args.headers.now c.loop-header.header-index c.loop-header.instructions.items c.loop-header.invariant.reading (omega arith)
