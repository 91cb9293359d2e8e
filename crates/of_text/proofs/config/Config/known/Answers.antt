use Rattle.std.proofs.Common.{length, ap, ◌∙◌}
use Rattle.of_text.proofs.{EntryLemmas.config_entries, EntryLemmas.config_stands, EntryLemmas.config_few, FillLemmas.sixteen, GroupLemmas.config_groups}
use Rattle.of_text.proofs.config.Config.known.Goals as goal

pub returns-clause-entries : goal.returns-clause-entries
returns-clause-entries c = rw (← c.self.view_is) (config_entries _ c.self.invariant)

pub returns-clause-stand : goal.returns-clause-stand
returns-clause-stand c = rw (← c.self.view_is) (config_stands _ c.self.invariant)

pub returns-clause-sixteen : goal.returns-clause-sixteen
returns-clause-sixteen c = rw (← c.self.view_is) (ap length c.self.invariant.filled ∙ sixteen c.self.invariant.flows)

pub returns-clause-few : goal.returns-clause-few
returns-clause-few c = rw (← c.self.view_is) (config_few _ c.self.invariant)

pub returns-clause-groups : goal.returns-clause-groups
returns-clause-groups c = rw (← c.self.view_is) (config_groups _ c.self.invariant)
