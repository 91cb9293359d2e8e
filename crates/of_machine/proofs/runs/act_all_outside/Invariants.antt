use Rattle.std.proofs.Common.{◌≡◌, ◌++◌, ◌∷◌, List, drop}
use Rattle.of_machine.specs.{Rows.Work, Rows.acts, Rows.Task, Rows.task, Runs.Moves, Runs.point}
use Rattle.of_machine.proofs.runs.act_all_outside.Given as goal

abbrev pub invariant-loop-action : goal.invariant-loop-action
invariant-loop-action g l = record {
  kept : g.W.World.view l.world ≡ g.W.World.view l.initial.world;
  content : g.W.World.content l.world ≡ g.W.World.content l.initial.world;
  so_far : (rest : List Work) (others : List Task) → Moves (g.W.World.view l.initial.world) g.S.StepLog.KEEPS (point (task l.initial.packet (acts l.actions ++ rest) ∷ others) l.initial.outcome (g.S.StepLog.list l.initial.log)) (point (task l.packet (acts (drop l.action-index l.actions) ++ rest) ∷ others) l.outcome (g.S.StepLog.list l.log));
}
