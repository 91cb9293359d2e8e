-- FRAMES THAT COME IN BY A PORT, as a match (OpenFlow 1.3.5, 7.2.3.7).
use Rattle.std.specs.Prelude.{ℕ, List, [], ◌∷◌, Option, Some, None}
use Rattle.of_oxm.specs.declared.match_field.MatchField.{MatchField}
use Rattle.of_symbolic_run.specs.PortNumbers.{came_in_by}

-- by this port, or by any
abbrev pub ingress_match : Option ℕ → List MatchField
ingress_match None = []
ingress_match (Some port) = came_in_by port ∷ []
