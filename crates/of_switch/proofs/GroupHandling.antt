-- A change of groups that is refused.
use Rattle.std.proofs.Common.{◌≡◌, Option, Some, Err, sym, ap}
use Rattle.of_wire.specs.Refusals.{first_of}
use Rattle.of_groups.specs.declared.group_fault.GroupFault.TheVariants.{BadWatch, NotOneBucket, Exists, Full, Unknown, AbsentGroup, AbsentWatch, LongChain, Named, NoMemory}
use Rattle.of_groups.specs.{declared.group_fault.GroupFault.GroupFault, Faults.fault_in}
use Rattle.of_switch.specs.{GroupMods.refused_for, Handling.Handles, Handling.fault_of, State.Core, Steps.Done}

pub fault_told : (fault : GroupFault) (found : Option GroupFault) (d : Done) (old new : Core) → Some fault ≡ found → new ≡ old → Handles (first_of (refused_for found)) d old (Err (fault_of fault)) new
fault_told NoMemory found d old new e same = same
fault_told other found d old new e same = (ap (λ f. first_of (refused_for f)) (sym e), same)

-- where running out of memory is no fault
pub fault_or_memory : (A : Type 0) (fault : GroupFault) (found : Option GroupFault) (d : Done) (old new : Core) → fault_in {A = A} (Err fault) ≡ found → new ≡ old → Handles (first_of (refused_for found)) d old (Err (fault_of fault)) new
fault_or_memory A BadWatch found d old new e same = fault_told BadWatch found d old new e same
fault_or_memory A NotOneBucket found d old new e same = fault_told NotOneBucket found d old new e same
fault_or_memory A Exists found d old new e same = fault_told Exists found d old new e same
fault_or_memory A Full found d old new e same = fault_told Full found d old new e same
fault_or_memory A Unknown found d old new e same = fault_told Unknown found d old new e same
fault_or_memory A AbsentGroup found d old new e same = fault_told AbsentGroup found d old new e same
fault_or_memory A AbsentWatch found d old new e same = fault_told AbsentWatch found d old new e same
fault_or_memory A LongChain found d old new e same = fault_told LongChain found d old new e same
fault_or_memory A Named found d old new e same = fault_told Named found d old new e same
fault_or_memory A NoMemory found d old new e same = same
