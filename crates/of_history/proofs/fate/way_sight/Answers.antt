use Rattle.of_history.proofs.WayLemmas.{said_by_way}
use Rattle.of_history.proofs.fate.way_sight.Goals as goal

pub invariant_of-result : goal.invariant_of-result
invariant_of-result g c =
    let is = rw c.deref.ensures.value at c.in_ok-steps.ensures in
    let lines = rw c.deref-2.ensures.value at c.in_ok-push_fate_lines.ensures in
    let all = rw c.deref-3.ensures at c.in_ok-push_side.ensures in
    record { said = said_by_way c.args.switch.now.core.forwarding c.args.run.steps.items c.in_ok-steps.steps.items c.args.run.items.items _ _ _ c.new-text.ensures.items is lines all }
