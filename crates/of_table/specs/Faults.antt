-- Why a flow was not added.
use Rattle.std.specs.Prelude.{Option, Some, None, Result, Ok, Err}
use Rattle.of_table.specs.declared.table_fault.TableFault.{TableFault}
use Rattle.of_table.specs.declared.table_fault.TableFault.TheVariants.{BadTable, Overlap, Full, NoMemory}

-- the fault of the flow in a result; running out of memory is none
abbrev pub flow_fault_in : {A : Type 0} → Result A TableFault → Option TableFault
flow_fault_in (Ok x) = None
flow_fault_in (Err NoMemory) = None
flow_fault_in (Err BadTable) = Some BadTable
flow_fault_in (Err Overlap) = Some Overlap
flow_fault_in (Err Full) = Some Full
