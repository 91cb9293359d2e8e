-- The condition that a packet came in by a port.
use Rattle.std.proofs.Common.{◌≡◌, ℕ, ◌<◌, ◌^◌, [], ◌∷◌, arith}
use Rattle.std.specs.Prelude.{bit_and}
use Rattle.of_layers.specs.{declared.field.Field.TheVariants.InPort, Fields.ones_of, Fields.row_of}
use Rattle.of_oxm.{specs.declared.match_field.MatchField.MatchField, proofs.Normal.under_ones}
use Rattle.of_regions.specs.Conditions.{AreConditions}
use Rattle.of_symbolic_run.specs.PortNumbers.{came_in_by}

pub within_port : (port : ℕ) → port < 2 ^ 32 → bit_and port (ones_of InPort) ≡ port
unfolding row_of
within_port port fits = under_ones InPort port (omega (arith, fits))

pub came_is_condition : (port : ℕ) → port < 2 ^ 32 → (e : MatchField) → e ≡ came_in_by port → AreConditions (e ∷ [])
unfolding row_of
came_is_condition port fits e is = rw is (record { within = within_port (ones_of InPort) (omega arith); value = within_port port fits }, tt)
