-- By whom, as the code has it: beside the message, or the lines about what expires.
use Rattle.std.specs.Prelude.{ℕ, List}
use Rattle.of_history.specs.{declared.cause.By.By, declared.cause.By.TheVariants.Message, declared.cause.By.TheVariants.Moment, declared.cause.By.TheVariants.Port, declared.cause.By.TheVariants.Row}
use Rattle.of_history.specs.Causes as seen

abbrev pub by_of : By → List ℕ → seen.By
by_of (Message number) text = seen.Message number text
by_of Moment text = seen.Moment text
by_of Port text = seen.Port
by_of Row text = seen.Row
