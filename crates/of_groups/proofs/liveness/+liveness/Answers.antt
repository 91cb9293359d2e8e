use Rattle.std.proofs.Common.{◌∙◌, ◌<◌, sym, ap, arith}
use Rattle.std.specs.Option.{option_copied}
use Rattle.of_groups.proofs.LiveLemmas.{within_none_left, within_absent, within_there}
use Rattle.of_groups.proofs.liveness.+liveness.Goals as goal

pub is_live_within-returns-then-levels-eq0 : goal.is_live_within-returns-then-levels-eq0
is_live_within-returns-then-levels-eq0 g t c = sym (within_none_left c.args.groups.now (g.P.LivePorts.live c.args.ports.now) c.args.levels c.args.id c.if-levels-eq0.true)

pub is_live_within-returns-in-None : goal.is_live_within-returns-in-None
is_live_within-returns-in-None g t c =
    sym (within_absent c.args.groups.now (g.P.LivePorts.live c.args.ports.now) c.args.levels c.args.id (sym c.find_group.ensures ∙ ap option_copied c.in-None.is))

pub is_live_within-returns-in-Some : goal.is_live_within-returns-in-Some
is_live_within-returns-in-Some g t c =
    let some : 0 < c.args.levels = omega (arith, c.if-levels-eq0.false) in
    rw (within_there c.args.groups.now (g.P.LivePorts.live c.args.ports.now) c.args.levels c.args.id c.in-Some.group.now some (sym c.find_group.ensures ∙ ap option_copied c.in-Some.is)) c.is_live_group.ensures
