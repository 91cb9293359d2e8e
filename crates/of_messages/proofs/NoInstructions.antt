-- No bytes are no instructions.
use Rattle.std.{specs.Prelude.Ok, proofs.Common.◌≡◌, proofs.Common.ℕ, proofs.Common.[], proofs.Common.refl}
use Rattle.of_wire.specs.Items.{items_from}
use Rattle.of_actions.specs.{RunOrder.in_run_order, InstructionReading.instructions_in_bytes}

pub no_instructions : (table : ℕ) → instructions_in_bytes table [] ≡ Ok []
unfolding instructions_in_bytes items_from in_run_order
no_instructions table = refl
