-- WHERE A RUN LOOKS PACKETS UP: the tables that its lines tell (OpenFlow 1.3.5, 5.1).
use Rattle.std.specs.Prelude.{ℕ, List, Option, Some, None, IfSome}
use Rattle.std.specs.List.{AllByRecursion}
use Rattle.of_machine.specs.{declared.data.Step.Step, declared.data.Step.TheVariants.Miss, declared.data.Step.TheVariants.Entry}

-- the table of a look-up
abbrev pub looked_up : Step → Option ℕ
looked_up (Miss t) = Some t
looked_up (Entry t n) = Some t
looked_up other = None

-- this holds of the table of each look-up
abbrev pub AtTables : (ℕ → Type 0) → List Step → Type 0
AtTables P lines = AllByRecursion (λ line. IfSome (looked_up line) P) lines
