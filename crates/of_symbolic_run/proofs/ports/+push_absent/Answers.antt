use Rattle.std.proofs.Common.{◌<◌, arith, inl, inr}
use Rattle.of_symbolic_run.proofs.AbsenceLemmas.{block_receives, from_halves, halves, in_block, on_ok_then}
use Rattle.of_symbolic_run.{specs.PortNumbers.AreAbsences, proofs.GroupedLemmas.if_ok}
use Rattle.of_symbolic_run.proofs.ports.+push_absent.Goals as goal

pub returns-then-is_none-clause-all : goal.returns-then-is_none-clause-all
returns-then-is_none-clause-all t c =
    if_ok c.push_block.result _ _
    (λ own number fits is. inr (own number (rw (c.of-block.ensures.mask, c.of-block.ensures.number) (in_block c.args.prefix c.args.low_bits c.requires.few c.requires.within number fits is)))) c.push_block.ensures.own

pub returns-then-low_bits-eq0-clause-all : goal.returns-then-low_bits-eq0-clause-all
returns-then-low_bits-eq0-clause-all t c = λ number fits is.
    inl (block_receives c.args.ports.now c.args.prefix c.args.low_bits c.of-block.result.number c.of-block.result.mask c.receiver.result c.if-low_bits-eq0.true c.requires.within c.of-block.ensures.number c.of-block.ensures.mask
    c.receiver.ensures.is c.receiver.ensures.fits c.is_none.result c.is_none.ensures c.if-is_none.false number is)

pub overflow_mul-prefix : goal.overflow_mul-prefix
overflow_mul-prefix t c = let h = halves c.args.prefix c.args.low_bits (omega (arith, c.if-low_bits-eq0.false)) c.requires.within in omega (arith, h.fits)

pub overflow_add-prefix : goal.overflow_add-prefix
overflow_add-prefix t c = let h = halves c.args.prefix c.args.low_bits (omega (arith, c.if-low_bits-eq0.false)) c.requires.within in omega (arith, h.fits)

pub push_absent-requires : goal.push_absent-requires
push_absent-requires t c =
    let some : 0 < c.args.low_bits = omega (arith, c.if-low_bits-eq0.false) in
    let h = halves c.args.prefix c.args.low_bits some c.requires.within in
    (omega (arith, c.decreases, some), (omega (arith, c.requires.few), h.upper))

pub overflow_mul-prefix-2 : goal.overflow_mul-prefix-2
overflow_mul-prefix-2 t c = let h = halves c.args.prefix c.args.low_bits (omega (arith, c.if-low_bits-eq0.false)) c.requires.within in omega (arith, h.fits)

pub push_absent-requires-2 : goal.push_absent-requires-2
push_absent-requires-2 t c =
    let some : 0 < c.args.low_bits = omega (arith, c.if-low_bits-eq0.false) in
    let h = halves c.args.prefix c.args.low_bits some c.requires.within in
    (omega (arith, c.decreases, some), (omega (arith, c.requires.few), h.lower))

pub returns-clause-absences : goal.returns-clause-absences
returns-clause-absences t c =
    let ports = c.args.ports.now in
    on_ok_then c.push_absent-2.result (AreAbsences ports c.args.absent.now.items) (AreAbsences ports c.push_absent.new.absent.items) (AreAbsences ports c.push_absent-2.new.absent.items) c.in_ok-push_absent.ensures.absences c.push_absent-2.ensures.absences

pub returns-clause-all : goal.returns-clause-all
returns-clause-all t c =
    let h = halves c.args.prefix c.args.low_bits (omega (arith, c.if-low_bits-eq0.false)) c.requires.within in
    from_halves c.push_absent-2.result c.args.ports.now c.push_absent.new.absent.items c.push_absent-2.new.absent.items c.args.prefix c.args.low_bits h c.in_ok-push_absent.ensures.all c.push_absent-2.ensures.more c.push_absent-2.ensures.all
