-- Lists in memory as lists.
use Rattle.std.specs.{Prelude.ℕ, Prelude.List, Prelude.map, Global.Vec}

abbrev pub view_names : List (Vec ℕ) → List (List ℕ)
view_names names = map (λ name. name.items) names
