-- The match of a port is in normal form.
use Rattle.std.proofs.Common.{ℕ, ◌^◌, ◌<◌, ◌≤◌, refl, arith}
use Rattle.of_layers.specs.{declared.field.Field.TheVariants.InPort, Fields.row_of, Fields.ones_of}
use Rattle.of_oxm.specs.{Prerequisites.prerequisites_met, NormalForm.IsMatch, InPortMatch.in_port_match}

in_port_below : (port : ℕ) → port < 2 ^ 32 → port ≤ ones_of InPort
unfolding row_of
in_port_below port h = omega arith

pub in_port_is_match : (port : ℕ) → port < 2 ^ 32 → IsMatch (in_port_match port)
unfolding row_of prerequisites_met
in_port_is_match port h = record {
  each = (record { value = in_port_below port h; mask = tt }, tt);
  rising = (tt, tt);
  met = refl;
}
