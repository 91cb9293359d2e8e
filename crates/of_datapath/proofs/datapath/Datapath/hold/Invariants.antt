use Rattle.std.proofs.Common.{◌≡◌}
use Rattle.of_datapath.specs.{Buffers.hold_all, Applying.without_used}
use Rattle.of_datapath.proofs.datapath.Datapath.hold.Given as goal

abbrev pub invariant-loop-frame : goal.invariant-loop-frame
invariant-loop-frame g l = record {
  tables : l.self.tables ≡ l.fn.self.tables;
  groups : l.self.groups ≡ l.fn.self.groups;
  ports : l.self.ports ≡ l.fn.self.ports;
  held : l.self.held ≡ hold_all l.yielded (without_used l.fn.used l.fn.self.held);
}
