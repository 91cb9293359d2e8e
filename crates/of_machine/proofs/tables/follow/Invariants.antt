use Rattle.std.proofs.Common.{drop}
use Rattle.of_machine.specs.{Rows.works, Runs.Follows}
use Rattle.of_machine.proofs.tables.follow.Given as goal

abbrev pub invariant-loop-instruction : goal.invariant-loop-instruction
invariant-loop-instruction g l =
    Follows (g.W.World.view l.world) g.S.StepLog.KEEPS l.initial.packet (works l.instructions) l.initial.outcome (g.S.StepLog.list l.initial.log) (works (drop l.instruction-index l.instructions)) l.packet l.outcome (g.S.StepLog.list l.log)
