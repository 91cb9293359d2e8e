use Rattle.std.proofs.Common.{drop}
use Rattle.of_table.specs.Tables.{tables_of}
use Rattle.of_text.specs.Views.{view_flows}
use Rattle.of_datapath.proofs.LoadLemmas.{Loading}
use Rattle.of_datapath.proofs.loading.load_table.Given as goal

abbrev pub invariant-loop-flow : goal.invariant-loop-flow
invariant-loop-flow g l = Loading l.table (view_flows l.flows) (drop l.flow-index l.flows) (tables_of l.fn.tables) (tables_of l.tables)
