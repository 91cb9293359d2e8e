-- The match of a frame received at a port, as a PACKET_IN carries it (OpenFlow 1.3.5, 7.4.1).
use Rattle.std.specs.Prelude.{ℕ, List, [], ◌∷◌, None}
use Rattle.of_layers.specs.declared.field.Field.TheVariants.{InPort}
use Rattle.of_oxm.specs.declared.match_field.MatchField.{MatchField}

abbrev pub in_port_match : ℕ → List MatchField
in_port_match port = (record { field = InPort; value = port; mask = None }) ∷ []
