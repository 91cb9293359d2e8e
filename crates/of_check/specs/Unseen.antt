-- WORK THAT NOBODY SEES: the machine goes on, and emits and counts nothing.
use Rattle.std.specs.Prelude.{◌≡◌, ℕ, List}
use Rattle.of_machine.specs.{TheWorld.TheWorld, Rows.Task, Runs.Machine, Runs.after}

-- after some steps these packets are left, with the same items and counts
pub record ComesUnseen (w : TheWorld) (m : Machine) (tasks : List Task) : Type 0 where
  pub steps : ℕ
  pub tasks_are : (after w steps m).tasks ≡ tasks
  pub items_are : (after w steps m).items ≡ m.items
  pub counts_are : (after w steps m).counts ≡ m.counts
