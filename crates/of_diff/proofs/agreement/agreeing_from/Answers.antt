use Rattle.std.proofs.Common.{sym}
use Rattle.of_datapath.specs.Numbers.{forwarding_of}
use Rattle.of_diff.proofs.AgreementLemmas.{agree_from}
use Rattle.of_diff.proofs.agreement.agreeing_from.Goals as goal

pub returns-else-have_same_entries-clause-agree : goal.returns-else-have_same_entries-clause-agree
returns-else-have_same_entries-clause-agree g c =
    let f = forwarding_of c.args.first.now in
    let s = forwarding_of c.args.second.now in
    agree_from f s c.loop-from.from c.requires (rw (sym c.group_list.ensures, sym c.group_list-2.ensures) (c.have_same_groups.ensures.0 c.if-not-have_same_groups.false)) c.loop-from.invariant.same

pub returns-after-loop-from-clause-agree : goal.returns-after-loop-from-clause-agree
returns-after-loop-from-clause-agree g c =
    let f = forwarding_of c.args.first.now in
    let s = forwarding_of c.args.second.now in
    agree_from f s c.loop-from.from c.requires (rw (sym c.group_list.ensures, sym c.group_list-2.ensures) (c.have_same_groups.ensures.0 c.if-not-have_same_groups.false)) c.loop-from.invariant.same
