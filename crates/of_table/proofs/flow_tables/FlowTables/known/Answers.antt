use Rattle.std.proofs.Common.{refl}
use Rattle.of_table.proofs.Soundness.{sound_everywhere}
use Rattle.of_table.proofs.flow_tables.FlowTables.known.Goals as goal

pub returns-clause-sound : goal.returns-clause-sound
returns-clause-sound g c = λ k. rw (← c.self.view_is) (sound_everywhere c.self.inside.tables.items k _ refl c.self.invariant.1)

pub returns-clause-distinct : goal.returns-clause-distinct
returns-clause-distinct g c = λ k. rw (← c.self.view_is) (rw c.deref.ensures.value at (c.known_tables.ensures k))

pub returns-clause-sixteen : goal.returns-clause-sixteen
returns-clause-sixteen g c = rw (← c.self.view_is) c.self.invariant.0
