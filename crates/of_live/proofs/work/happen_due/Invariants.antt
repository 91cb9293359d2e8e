use Rattle.std.proofs.Common.{◌≡◌, ◌++◌, List, length}
use Rattle.of_switch.specs.declared.event.Event.{Event}
use Rattle.of_serve.specs.Turns.{due, left}
use Rattle.of_live.specs.Working.{Does}
use Rattle.of_live.proofs.work.happen_due.Given as goal

-- those that are due happened up to here, and the rest is still to come
abbrev pub invariant-loop-row : goal.invariant-loop-row
invariant-loop-row g l = record {
  rest : left l.now l.fn.rows ≡ left l.now l.rows;
  done : List Event;
  due_are : due l.now l.fn.rows ≡ done ++ due l.now l.rows;
  does : Does l.keeps done l.fn.switch l.switch l.fn.work l.work;
}

abbrev pub decreases-loop-row : goal.decreases-loop-row
decreases-loop-row g l = length l.rows
