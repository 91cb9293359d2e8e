use Rattle.std.proofs.Common.{◌≡◌, ◌+◌, arith}
use Rattle.of_rewrite.proofs.Going.{starts, goes_on, ends}
use Rattle.of_rewrite.proofs.writing.put_number.Goals as goal

pub loop-left-init : goal.loop-left-init
loop-left-init c = record {
  going = starts c.args.place.first c.args.place.bits c.args.value c.args.bytes.now c.args.sums (omega arith) (omega arith);
  most = c.requires.most;
}

pub overflow_add-first : goal.overflow_add-first
overflow_add-first c =
    let e : c.loop-left.first + c.loop-left.left ≡ c.args.place.first + c.args.place.bits = c.loop-left.invariant.going.end_is in
    omega arith

pub loop-left-preserved : goal.loop-left-preserved
loop-left-preserved c = record {
  going = goes_on c.args.place.first c.args.place.bits c.args.value c.args.bytes.now c.args.sums c.loop-left.first c.loop-left.left c.min-width.result
      c.loop-left.bytes c.put_piece-sums.new.bytes c.loop-left.sums c.put_piece-sums.result c.loop-left.invariant.going c.requires.even c.requires.room c.loop-left-test.true
      c.min-width.ensures c.put_piece-sums.auto.bytes c.put_piece-sums.ensures.bits c.put_piece-sums.ensures.sums c.put_piece-sums.ensures.kept;
  most = omega (arith, c.loop-left.invariant.most);
}

pub returns-clause-bits : goal.returns-clause-bits
returns-clause-bits c =
    let none : c.loop-left.left ≡ 0 = omega arith in
    (ends c.args.place.first c.args.place.bits c.args.value c.args.bytes.now c.args.sums c.loop-left.first c.loop-left.bytes c.loop-left.sums
    (rw none at c.loop-left.invariant.going)).0
