use Rattle.std.proofs.Common.{◌≤◌, arith}
use Rattle.of_rewrite.proofs.Following.{follows}
use Rattle.of_rewrite.proofs.sums.Sum.follow.Goals as goal

pub returns : goal.returns
returns c = λ s h e.
    let small : c.args.self.value ≤ 65535 = omega arith in
    rw (c.step-2.ensures, c.step.ensures, c.has-2.ensures, c.has.ensures) (follows c.args.self c.args.at c.args.old c.args.new s small h e c.requires.word c.requires.even.0 c.requires.even.1)
