-- Steps that have a line: what is done is an action of a flow, so its numbers fit the bytes in which flow text writes them.
use Rattle.std.specs.{Prelude.Bool, Prelude.true, Prelude.false, Prelude.List, List.list_all}
use Rattle.of_actions.specs.Supported.{is_supported}
use Rattle.of_machine.specs.{declared.data.Step.Step, declared.data.Step.TheVariants.Act}

abbrev pub is_encoded : Step → Bool
is_encoded (Act action) = is_supported false action
is_encoded other = true

abbrev pub are_encoded : List Step → Bool
are_encoded steps = list_all is_encoded steps
