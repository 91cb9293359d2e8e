-- What the handling of a message returns.
use Rattle.std.specs.Prelude.{◌≡◌, ℕ, List, Option, Some, None, Result, Ok, Err}
use Rattle.std.specs.Option.{option_map_or}
use Rattle.smallvec.specs.SmallVec.{SmallVec}
use Rattle.of_wire.specs.{declared.codes.TheConstants.OFPBRC_BUFFER_UNKNOWN, declared.code.Code.Code, Refusals.refusal}
use Rattle.of_groups.specs.{declared.group_fault.GroupFault.GroupFault, Faults.code_of}
use Rattle.of_datapath.specs.declared.effect.Effect.{Effect}
use Rattle.of_switch.specs.{declared.switch_core.Fault.Fault, declared.switch_core.Fault.TheVariants.Memory, declared.switch_core.Fault.TheVariants.Refused, State.Core, Steps.Done, Steps.does}

-- a change of groups that is refused, or that ran out of memory
abbrev pub fault_of : GroupFault → Fault
fault_of fault = option_map_or Refused (code_of fault) Memory

-- carried out where nothing refuses it; else refused with this code, and nothing else; or out of memory, and nothing else
abbrev pub Handles : Option Code → Done → Core → Result (SmallVec Effect) Fault → Core → Type 0
Handles refusal d old (Ok effects) new = (refusal ≡ None) × (d ≡ does effects.items new)
Handles refusal d old (Err (Refused code)) new = (refusal ≡ Some code) × (new ≡ old)
Handles refusal d old (Err Memory) new = new ≡ old

-- the frame of a PACKET_OUT is not given where no frame is held under its id, or memory runs out
abbrev pub IsUnlessHeld : Option (List ℕ) → Fault → Type 0
IsUnlessHeld frame Memory = Unit {0}
IsUnlessHeld frame (Refused code) = (frame ≡ None) × (code ≡ OFPBRC_BUFFER_UNKNOWN)
