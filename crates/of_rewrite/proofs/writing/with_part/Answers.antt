use Rattle.std.proofs.Common.{◌≡◌, ◌<◌, ◌+◌, ◌-◌, ◌*◌, ◌%◌, ◌/◌, arith}
use Rattle.of_rewrite.proofs.{Putting.part_below, writing.with_part.Goals.After-from}
use Rattle.of_rewrite.proofs.writing.with_part.Goals as goal

small : (c : After-from) → (c.from-word.result / c.power-unit.result / c.power-span.result * c.power-span.result + c.from.result % c.power-span.result) * c.power-unit.result + c.from-word.result % c.power-unit.result < 65536
small c =
    let all : 16 - c.args.width - c.args.below + c.args.width + c.args.below ≡ 16 = omega arith in
    rw (c.power-unit.ensures, c.power-span.ensures, c.from-word.ensures, c.from.ensures) (part_below (16 - c.args.width - c.args.below) c.args.width c.args.below c.args.value c.args.word all (omega arith))

pub overflow_cast-result : goal.overflow_cast-result
overflow_cast-result c = let s = small c in omega arith

pub overflow_add-result : goal.overflow_add-result
overflow_add-result c = let s = small c in omega arith

pub overflow_mul-result : goal.overflow_mul-result
overflow_mul-result c = let s = small c in omega arith
