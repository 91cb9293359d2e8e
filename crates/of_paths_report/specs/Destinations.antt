-- WHERE THE FRAMES OF A CLASS GO: where its frame goes, if they come in by one port (OpenFlow 1.3.5, 5.12).
use Rattle.std.specs.Prelude.{◌≡◌, ℕ, Bool, true, List, Option, Some, None}
use Rattle.std.specs.List.{Contains}
use Rattle.of_paths.specs.{declared.path.PathClass.PathClass, Paths.InPaths, Places.lead_to, declared.destination.Destination.Destination}

-- something of its frame leaves by the port, or goes to the controller; or nothing of it leaves
abbrev pub is_class_leading : Destination → PathClass → Bool
is_class_leading to c = lead_to to c.items.items

-- to the place that is asked for, if one is
abbrev pub is_class_shown : Option Destination → PathClass → Bool
is_class_shown None c = true
is_class_shown (Some to) c = is_class_leading to c

-- the frame is one of those of a class that leads there
abbrev pub InClassLeadingTo : Destination → List PathClass → List ℕ → ℕ → Type 0
InClassLeadingTo to classes frame port = (c : PathClass) × Contains classes c × (is_class_leading to c ≡ true) × InPaths c.paths.items frame port
