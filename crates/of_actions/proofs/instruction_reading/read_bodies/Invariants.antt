use Rattle.std.{specs.List.list_all, proofs.Common.◌≡◌, proofs.Common.true}
use Rattle.of_actions.{specs.InstructionLists.is_served_body, proofs.Bodies.Reading}
use Rattle.of_actions.proofs.instruction_reading.read_bodies.Given as goal

abbrev pub invariant-loop-header : goal.invariant-loop-header
invariant-loop-header l = record { reading : Reading l.headers l.header-index l.instructions.items; served : list_all is_served_body l.instructions.items ≡ true }
