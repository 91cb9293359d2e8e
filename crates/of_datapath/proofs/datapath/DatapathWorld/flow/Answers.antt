use Rattle.of_datapath.proofs.Worlds.{is_table, is_there_by}
use Rattle.of_datapath.proofs.datapath.DatapathWorld.flow.Goals as goal

pub flow-requires-clause-table : goal.flow-requires-clause-table
flow-requires-clause-table g c = is_table c.args.self.now.tables c.args.table c.args.number c.known.ensures.sixteen c.requires

pub flow-requires-clause-number : goal.flow-requires-clause-number
flow-requires-clause-number g c = is_there_by c.args.self.now.tables c.args.table c.args.number c.requires
