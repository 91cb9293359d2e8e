use Rattle.std.proofs.Common.{◌≡◌, ◌∷◌, [], ◌<◌, ◌-◌, List}
use Rattle.of_machine.specs.{Rows.Lookup, Rows.Task, Rows.task, Runs.Moves, Runs.point}
use Rattle.of_machine.proofs.tables.pipeline.Given as goal

abbrev pub invariant-loop-next : goal.invariant-loop-next
invariant-loop-next g l = record {
  kept : g.W.World.view l.world ≡ g.W.World.view l.initial.world;
  content : g.W.World.content l.world ≡ g.W.World.content l.initial.world;
  inside : l.table < 16;
  so_far : (others : List Task) → Moves (g.W.World.view l.initial.world) g.S.StepLog.KEEPS (point (task l.initial.packet (Lookup 0 ∷ []) ∷ others) l.initial.outcome (g.S.StepLog.list l.initial.log)) (point (task l.packet (Lookup l.table ∷ []) ∷ others) l.outcome (g.S.StepLog.list l.log));
}

abbrev pub decreases-loop-next : goal.decreases-loop-next
decreases-loop-next g l = 16 - l.table
