-- What an outcome gains.
use Rattle.std.specs.Prelude.{◌≡◌, ◌++◌}
use Rattle.of_machine.specs.{declared.data.Outcome.Outcome, Rows.Emitted}

pub record Gains (old : Outcome) (e : Emitted) (new : Outcome) : Type 0 where
  pub items : new.items.items ≡ old.items.items ++ e.items
  pub counts : new.counts.items ≡ old.counts.items ++ e.counts
