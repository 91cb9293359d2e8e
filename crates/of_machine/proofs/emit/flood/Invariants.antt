use Rattle.std.proofs.Common.{◌≡◌, ◌++◌, take}
use Rattle.of_machine.specs.Rows.{flooded}
use Rattle.of_machine.proofs.emit.flood.Given as goal

abbrev pub invariant-loop-port : goal.invariant-loop-port
invariant-loop-port l = record {
  items : l.outcome.items.items ≡ l.initial.outcome.items.items ++ (flooded (take l.port-index l.ports) l.packet).items;
  counts : l.outcome.counts.items ≡ l.initial.outcome.counts.items;
}
