use Rattle.of_laws.proofs.Outcomes.{given, never_memory, no_command_at, refused_at}
use Rattle.of_laws.proofs.config_laws.each_is_taken_or_the_first_is_named.Goals as goal

pub returns-clause-given : goal.returns-clause-given
returns-clause-given c = given

pub returns-clause-refused : goal.returns-clause-refused
returns-clause-refused c = refused_at

pub returns-clause-no_command : goal.returns-clause-no_command
returns-clause-no_command c = no_command_at

pub returns-clause-memory : goal.returns-clause-memory
returns-clause-memory c = never_memory
