use Rattle.of_datapath.proofs.Telling.{held_more}
use Rattle.of_datapath.proofs.datapath.Datapath.hold.Goals as goal

pub loop-frame-preserved : goal.loop-frame-preserved
loop-frame-preserved g c = record {
  tables = c.loop-frame.invariant.tables;
  groups = c.loop-frame.invariant.groups;
  ports = c.loop-frame.invariant.ports;
  held = held_more c.loop-frame.yielded _ _ _ _ c.loop-frame.invariant.held c.hold.ensures;
}
