use Rattle.std.proofs.Common.{◌≡◌, ◌++◌, drop}
use Rattle.of_json.specs.LeavingWords.{ports_of_frame}
use Rattle.of_json.proofs.items.same_frame_ports.Given as goal

abbrev pub invariant-loop-item : goal.invariant-loop-item
invariant-loop-item l = l.ports.items ++ ports_of_frame l.frame (drop l.item-index l.items) ≡ ports_of_frame l.frame l.items
