use Rattle.std.proofs.Common.{drop, List, []}
use Rattle.of_diff_report.specs.{declared.telling.Told.Told, Telling.PutsAllTold}
use Rattle.of_diff_report.proofs.telling.tell_all.Given as goal

abbrev pub invariant-loop-difference : goal.invariant-loop-difference
invariant-loop-difference g l =
    let f = l.first.switch.now.core.forwarding in
    let g' = l.second.switch.now.core.forwarding in
    (end : List Told) → PutsAllTold f g' (drop l.difference-index l.found) l.told.items end → PutsAllTold f g' l.found [] end
