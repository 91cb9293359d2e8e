use Rattle.std.proofs.Common.{◌+◌, drop, subst}
use Rattle.of_diff.specs.declared.difference.Difference.{Difference}
use Rattle.of_symbolic_run.proofs.Pairing.{at_index}
use Rattle.of_diff_report.{specs.Telling.PutsTold, proofs.TellingLemmas.tell_more}
use Rattle.of_diff_report.proofs.telling.tell_all.Goals as goal

pub loop-difference-preserved : goal.loop-difference-preserved
loop-difference-preserved g c = λ end h.
    let found = c.args.found.now in
    let i = c.loop-difference.difference-index in
    let d = c.difference-item.result in
    let t = c.in_ok-further.further in
    let told = c.in_ok-further.ensures in
    let puts = subst (λ (x : Difference). PutsTold x t c.loop-difference.told.items c.put_told.new.told.items) told.difference c.in_ok-put_told.ensures in
    c.loop-difference.invariant end
    (tell_more c.args.first.now.switch.now.core.forwarding c.args.second.now.switch.now.core.forwarding (drop i found) (drop (i + 1) found) d c.loop-difference.told.items c.put_told.new.told.items end t
    (at_index found i d c.loop-difference-test.true c.difference-item.is) told puts h)
