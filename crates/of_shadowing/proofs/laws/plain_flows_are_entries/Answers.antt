use Rattle.of_shadowing.proofs.PlainLemmas.{never_entry, never_flow, wins_entry}
use Rattle.of_shadowing.proofs.laws.plain_flows_are_entries.Goals as goal

pub returns-clause-never : goal.returns-clause-never
returns-clause-never c = never_entry

pub returns-clause-always_never : goal.returns-clause-always_never
returns-clause-always_never c = never_flow

pub returns-clause-wins : goal.returns-clause-wins
returns-clause-wins c = wins_entry
