use Rattle.std.proofs.Common.{◌+◌, ◌*◌, ◌∷◌, ◌++◌, List, drop}
use Rattle.of_machine.specs.Rows.{Work, acts, Task, task, copies}
use Rattle.of_machine.specs.Runs.{Moves, point}
use Rattle.of_machine.proofs.machine.+machine.Given as goal

abbrev pub decreases-act : goal.decreases-act
decreases-act g l = 5 * l.levels + 1

abbrev pub decreases-act_all : goal.decreases-act_all
decreases-act_all g l = 5 * l.levels + 2

abbrev pub decreases-run_set : goal.decreases-run_set
decreases-run_set g l = 5 * l.levels + 3

abbrev pub decreases-run_buckets : goal.decreases-run_buckets
decreases-run_buckets g l = 5 * l.levels + 4

abbrev pub decreases-to_group : goal.decreases-to_group
decreases-to_group g l = 5 * l.levels

abbrev pub invariant-act_all-loop-action : goal.invariant-act_all-loop-action
invariant-act_all-loop-action g l =
    (rest : List Work) (others : List Task) →
    Moves (g.W.World.view l.world) g.S.StepLog.KEEPS
    (point (task l.initial.packet (acts l.actions ++ rest) ∷ others) l.initial.outcome (g.S.StepLog.list l.initial.log))
    (point (task l.packet (acts (drop l.action-index l.actions) ++ rest) ∷ others) l.outcome (g.S.StepLog.list l.log))

abbrev pub invariant-run_buckets-loop-place : goal.invariant-run_buckets-loop-place
invariant-run_buckets-loop-place g l =
    (others : List Task) →
    Moves (g.W.World.view l.world) g.S.StepLog.KEEPS
    (point (copies (g.W.World.view l.world) l.group l.packet l.places ++ others) l.initial.outcome (g.S.StepLog.list l.initial.log))
    (point (copies (g.W.World.view l.world) l.group l.packet (drop l.place-index l.places) ++ others) l.outcome (g.S.StepLog.list l.log))
