use Rattle.std.proofs.Common.{◌∙◌}
use Rattle.of_groups.proofs.RoundLemmas.{long_own, long_other}
use Rattle.of_groups.proofs.chains.makes_long.Goals as goal

pub returns-then-three_behind : goal.returns-then-three_behind
returns-then-three_behind c =
    c.if-three_behind.true ∙ long_own c.next_round-three_behind.result c.args.groups.now c.args.new.now
    (c.next_round-three_behind.ensures c.args.groups.now c.args.new.now 2 (c.next_round-two_behind.ensures c.args.groups.now c.args.new.now 1 (c.next_round-one_behind.ensures c.args.groups.now c.args.new.now 0 c.first_round-there.ensures)))
    c.if-three_behind.true

pub returns-else-three_behind : goal.returns-else-three_behind
returns-else-three_behind c =
    c.is_any_known.ensures
    ∙ long_other c.next_round-three_behind.result c.args.groups.now c.args.new.now
    (c.next_round-three_behind.ensures c.args.groups.now c.args.new.now 2 (c.next_round-two_behind.ensures c.args.groups.now c.args.new.now 1 (c.next_round-one_behind.ensures c.args.groups.now c.args.new.now 0 c.first_round-there.ensures)))
    c.if-three_behind.false
